use Rattle.std.specs.Prelude.{◌↔◌}
use Rattle.std.proofs.Common.{◌≡◌, List, ℕ, Ok, refl, ap, ◌∙◌}
use Rattle.reg_text.specs.declared.cause.Cause.TheVariants as cause
use Rattle.reg_text.specs.Causes.{cause_name}
use Rattle.reg_text.specs.CauseNames.{causes, cause_of}
use Rattle.reg_text.proofs.Names.{Cause, word_of}
use Rattle.reg_text.proofs.WordLaws.{IsOwn, named-spelled}
use Rattle.reg_text.proofs.laws.one_name_of_each_cause.Goals as goal

own-cause : (c : Cause) → IsOwn cause_name causes c
own-cause cause.End = (λ b. refl, refl)
own-cause c = (λ b. refl, refl)

one-name : (f : List ℕ) (c : Cause) → (cause_of f ≡ Ok c) ↔ (f ≡ cause_name c)
unfolding word_of
one-name f c = (
  named-spelled cause.Word cause_name causes f c,
  λ e. ap (word_of cause_name causes) e ∙ (own-cause c).0 cause.Word,
)

pub returns : goal.returns
returns c = one-name
