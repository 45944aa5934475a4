-- A user is an administrator exactly if the list of administrators has the user.
use Rattle.std.proofs.Common.{◌≡◌, ℕ, Bool, true, false, eqb, List, get_or, refl, sym, ◌∙◌}
use Rattle.std.specs.Prelude.{◌↔◌, IsTrue, Contains}
use Rattle.std.proofs.lemmas.Bool.{eqb-true, eq-eqb}
use Rattle.std.proofs.lemmas.List.Folds.{list_any_at}
use Rattle.std.proofs.lemmas.Map.Views.{Contains-from_any}
use Rattle.std.proofs.lemmas.List.{get_or_default}
use Rattle.reg_base.specs.Footprint.{is_among}

pub is-among : (numbers : List ℕ) (a : ℕ) (r : Bool) → (IsTrue r ↔ Contains numbers a) → r ≡ is_among numbers a
is-among numbers a r both = go r (is_among numbers a) refl refl both where
  go : (b c : Bool) → r ≡ b → is_among numbers a ≡ c → (IsTrue b ↔ Contains numbers a) → b ≡ c
  go true c is at both =
      let found = both.0 refl in
      sym (list_any_at (λ n. eqb n a) numbers found.0 a found.1
      (eq-eqb (get_or numbers found.0 a) a (get_or_default numbers found.0 a a found.1 ∙ found.2))) ∙ at
  go false true is at both = both.1 (Contains-from_any (λ x y same. sym (eqb-true y x same)) a numbers at)
  go false false is at both = refl
