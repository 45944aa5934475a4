use Rattle.reg_text.proofs.GrammarLaws.{one-spelling, is-figure}
use Rattle.reg_text.proofs.laws.one_spelling_of_a_figure.Goals as goal

pub returns : goal.returns
returns c = one-spelling is-figure
