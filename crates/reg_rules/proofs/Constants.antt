-- No act changes the kind, holder, permissions or correction factor of an account.
use Rattle.std.proofs.Common.{◌≡◌, Option, Some, None, refl, ap, ◌∙◌}
use Rattle.std.specs.Option.{option_map}
use Rattle.reg_base.specs.declared.refusals.Refusal.{Refusal}
use Rattle.reg_account.specs.Account.{AccountValue}
use Rattle.reg_rules.specs.State.{account}
use Rattle.reg_rules.specs.Checks.{refusal}
use Rattle.reg_rules.specs.Effect.{changed_by}
use Rattle.reg_rules.specs.Step.{step_by}
use Rattle.reg_rules.specs.Laws.{constants_of, ConstantsStay}
use Rattle.reg_rules.proofs.Effects.{account-effect}

mapped : (f : AccountValue → AccountValue) → ((v : AccountValue) → constants_of (f v) ≡ constants_of v)
    → (o : Option AccountValue)
    → option_map constants_of (option_map f o) ≡ option_map constants_of o
mapped f keeps None = refl
mapped f keeps (Some v) = ap Some (keeps v)

pub constants-stay : ConstantsStay
constants-stay c s n i a = go (refusal c s i) where
  go : (r : Option Refusal) → option_map constants_of (account (step_by c s n i r).0 a)
      ≡ option_map constants_of (account s a)
  go None = ap (option_map constants_of) (account-effect c s n i a)
      ∙ mapped (changed_by c n i.act) (λ v. refl) (account s a)
  go (Some q) = refl
