-- A task of a named day is one of its context.
use Rattle.std.proofs.Common.{◌≡◌, ℕ, zero, suc, ◌+◌, ◌-◌, ◌<◌, ◌≤◌, true, List, [], ◌∷◌, length, get_or, Some, refl}
use Rattle.std.proofs.Common.{sym, ap, subst, ◌∙◌, arith}
use Rattle.std.specs.Prelude.{not}
use Rattle.std.specs.List.{list_all}
use Rattle.std.proofs.lemmas.Bool.{and_from}
use Rattle.std.proofs.lemmas.List.Elements.{recursion_from_All}
use Rattle.reg_facts.proofs.lemmas.Members.{of_member}
use Rattle.reg_base.specs.Touches.{last_toucher}
use Rattle.reg_account.specs.Account.{AccountValue}
use Rattle.reg_rules.specs.State.{State, account, numbers}
use Rattle.reg_rules.specs.Effect.{IsBehind}
use Rattle.reg_book.specs.Book.{has_row_ahead}
use Rattle.reg_book.specs.Day.{DayValue, IsDay, state_at, value_at}
use Rattle.reg_book.specs.Laws.{StaysReady, ValueIsLastTouchers}
use Rattle.reg_schedules.specs.Pool.{directory}
use Rattle.reg_tasks.specs.Names.{before_place}
use Rattle.reg_tasks.specs.declared.naming.Naming.{Ghosts}
use Rattle.reg_tasks.specs.declared.parcel.Parcel.{Parcel}
use Rattle.reg_tasks.specs.Parcels.{names_of, values_of}
use Rattle.reg_tasks.proofs.lemmas.Gathering.{in_account, behind_not_ahead}

module _ {N : Type 0} {b : Ghosts N} where
  pub number_at : (ps : List (Parcel N b)) (k : ℕ) (p : Parcel N b) → k < length ps → p ≡ get_or ps k p
      → get_or (numbers (values_of ps)) k 0 ≡ p.value.number
  number_at [] k p lt e = absurd (omega arith)
  number_at (q ∷ ps) zero p lt e = ap (λ (x : Parcel N b). x.value.number) (sym e)
  number_at (q ∷ ps) (suc k) p lt e = number_at ps k p (omega arith) e

  pub numbers_fit : (d : DayValue) (place : ℕ) (accounts : List ℕ) (ps : List (Parcel N b))
      → names_of ps ≡ before_place d place accounts → numbers (values_of ps) ≡ accounts
  numbers_fit d place [] [] e = refl
  numbers_fit d place [] (p ∷ ps) e = absurd cc
  numbers_fit d place (a ∷ more) [] e = absurd cc
  numbers_fit d place (a ∷ more) (p ∷ ps) e =
      let head : ◌≡◌ {A = ℕ × ℕ} (p.value.number, p.after)
      (a, last_toucher (directory d) d.batch.instructions a (place - 1)) = cc in
      let tail : names_of ps ≡ before_place d place more = cc in
      ap (λ (n : ℕ × ℕ). n.0 ∷ numbers (values_of ps)) head ∙ ap (λ ns. a ∷ ns) (numbers_fit d place more ps tail)

  pub rows_fit : ValueIsLastTouchers → StaysReady → (d : DayValue) → IsDay d → b.day ≡ Some d → (place : ℕ) → 1 ≤ place
      → place ≤ length d.batch.instructions
      → (accounts : List ℕ) (ps : List (Parcel N b)) → names_of ps ≡ before_place d place accounts
      → list_all (λ (v : AccountValue). not (has_row_ahead (d.batch.base + place) v)) (values_of ps) ≡ true
  rows_fit values ready d is_day named place low high [] [] e = refl
  rows_fit values ready d is_day named place low high [] (p ∷ ps) e = absurd cc
  rows_fit values ready d is_day named place low high (a ∷ more) [] e = absurd cc
  rows_fit values ready d is_day named place low high (a ∷ more) (p ∷ ps) e =
      let head : ◌≡◌ {A = ℕ × ℕ} (p.value.number, p.after)
      (a, last_toucher (directory d) d.batch.instructions a (place - 1)) = cc in
      let tail : names_of ps ≡ before_place d place more = cc in
      let number : p.value.number ≡ a = ap (λ (n : ℕ × ℕ). n.0) head in
      let after : p.after ≡ last_toucher (directory d) d.batch.instructions a (place - 1) =
      ap (λ (n : ℕ × ℕ). n.1) head in
      let here : account (state_at d (place - 1)) a ≡ Some p.value = values d a (place - 1)
      ∙ ap (value_at d a) (sym after) ∙ ap (λ n. value_at d n p.after) (sym number) ∙ p.right d named in
      let all = recursion_from_All (IsBehind (d.batch.base + 1 + (place - 1))) (state_at d (place - 1))
      (ready d is_day (place - 1) (omega (arith, high))).behind in
      let same : d.batch.base + 1 + (place - 1) ≡ d.batch.base + place = omega (arith, low) in
      let behind = subst (λ n. IsBehind n p.value) same
      (of_member (IsBehind (d.batch.base + 1 + (place - 1))) (state_at d (place - 1)) p.value all
      (in_account (state_at d (place - 1)) a p.value here)) in
      and_from (not (has_row_ahead (d.batch.base + place) p.value))
      (list_all (λ (v : AccountValue). not (has_row_ahead (d.batch.base + place) v)) (values_of ps))
      (behind_not_ahead (d.batch.base + place) p.value behind)
      (rows_fit values ready d is_day named place low high more ps tail)

  pub few_values : (ps : List (Parcel N b)) (most : ℕ) (accounts : List ℕ) → numbers (values_of ps) ≡ accounts
      → length accounts ≤ most → length (values_of ps) ≤ most
  few_values ps most accounts same few = let size : length (values_of ps) ≡ length accounts =
      sizes (values_of ps) ∙ ap length same in omega (arith, size, few) where
        sizes : (s : State) → length s ≡ length (numbers s)
        sizes [] = refl
        sizes (v ∷ vs) = ap suc (sizes vs)
