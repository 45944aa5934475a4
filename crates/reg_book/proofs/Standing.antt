-- Where an account stands among others.
use Rattle.std.proofs.Common.{◌≡◌, ℕ, suc, ◌<◌, ◌≤◌, Bool, true, false, [], length, get_or, refl, sym, ap, ◌∙◌, arith}
use Rattle.std.specs.Prelude.{nat_lt, pos}
use Rattle.std.specs.List.{HoldsAt}
use Rattle.std.proofs.lemmas.List.{get_or_past, get_or-map}
use Rattle.reg_base.specs.declared.kinds.AccountKind.TheVariants.{Total}
use Rattle.reg_base.specs.declared.kinds.Status.TheVariants.{Opened}
use Rattle.reg_account.specs.Account.{AccountValue}
use Rattle.reg_rules.specs.State.{State, numbers}

-- the account at this index has this number
pub record StandsAt (s : State) (index a : ℕ) : Type 0 where
  pub within : index < length s
  pub has_number : get_or (numbers s) index 0 ≡ a

-- an account that has this number and nothing else
abbrev numbered : ℕ → AccountValue
numbered a = record {
  number = a;
  kind = Total;
  holder = 0;
  status = Opened;
  outside = false;
  waiver = false;
  correction = pos 0;
  corrections = [];
  held = record { general = 0; aviation = 0 };
  users = [];
  trusted = [];
  rows = [];
  emissions = [];
  figures = [];
}

-- past the end of the list no number is that of every account
pub stands-at : (s : State) (p a : ℕ) → HoldsAt (λ v. v.number ≡ a) s p → StandsAt s p a
stands-at s p a holds = by (nat_lt p (length s)) refl
  where
    by : (b : Bool) → nat_lt p (length s) ≡ b → StandsAt s p a
    by true h =
        let lt : p < length s = grind (arith, h) in
        record {
          within = lt;
          has_number = get_or-map (λ (v : AccountValue). v.number) s p (numbered a) 0 lt
              ∙ holds (numbered a);
        }
    by false h =
        let past : length s ≤ p = grind (arith, h) in
        let other : suc a ≡ a = ap (λ (v : AccountValue). v.number) (sym (get_or_past s p (numbered (suc a)) past))
        ∙ holds (numbered (suc a)) in
        absurd (omega (arith, other))
