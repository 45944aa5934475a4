-- Each table gives the same word: it computes.
use Rattle.std.proofs.Common.{◌≡◌, refl}
use Rattle.reg_base.specs.declared.act.Act.{Act}
use Rattle.reg_base.specs.declared.act.Act.TheVariants as act
use Rattle.reg_base.specs.Words.{name_of_act}
use Rattle.reg_text.specs.Acts.{act_name, act_word}
use Rattle.reg_text.proofs.laws.words_are_those_of_values.Goals as goal

same-act : (a : Act) → act_word (act_name a) ≡ name_of_act a
same-act (act.Transfer from to kind amount) = refl
same-act a = refl

pub returns : goal.returns
returns c = record { acts = same-act }
