-- A dock that has as many parcels as its place touches accounts has all that the place awaits.
use Rattle.std.proofs.Common.{◌≡◌, ℕ, ◌<◌, ◌≤◌, Bool, true, false, cond, ◌&&◌, ◌||◌, eqb, List, [], ◌∷◌, length, Some}
use Rattle.std.proofs.Common.{None, arith, refl}
use Rattle.std.specs.Prelude.{not, filter, is_some}
use Rattle.std.specs.List.{list_any, list_all}
use Rattle.std.proofs.lemmas.Bool.{eq-eqb, ne_eqb, and_from}
use Rattle.std.proofs.lemmas.List.{length-map}
use Rattle.reg_plan.specs.Plans.{PlanValue, inward}
use Rattle.reg_book.specs.Day.{DayValue}
use Rattle.reg_schedules.specs.Pool.{footprint_at}
use Rattle.reg_schedules.specs.Docks.{ParcelValue, is_name, of_name, awaited, complete, still_awaited}
use Rattle.reg_schedules.proofs.lemmas.Needed.{length_needed}
use Rattle.reg_tasks.specs.declared.naming.Naming.{Ghosts}
use Rattle.reg_tasks.specs.declared.parcel.Parcel.{Parcel}
use Rattle.reg_tasks.specs.Names.{has_names}
use Rattle.reg_tasks.specs.Parcels.{names_of, parcels_of}
use Rattle.reg_yard.specs.Held.{FitInDock}

module _ (day : DayValue) (plan : PlanValue) (place : ℕ) where
  -- as many are awaited as the place touches accounts
  many-awaited : length (awaited day plan place) ≡ length (footprint_at day place)
  many-awaited = length_needed (inward plan.arrows place) (footprint_at day place)

  -- with fewer parcels there is no task
  pub too-few : (came : List ParcelValue) → length came < length (footprint_at day place)
      → complete day plan place came ≡ None
  too-few came fewer =
      let apart : eqb (length came) (length (awaited day plan place)) ≡ false =
      ne_eqb (length came) (length (awaited day plan place)) (λ same. omega (arith, same, fewer, many-awaited)) in
      rw apart refl

module _ {N : Type 0} {b : Ghosts N} where
  -- a parcel of this name is found if the name is among theirs
  found-any : (ps : List (Parcel N b)) (w : ℕ × ℕ) → list_any (λ n. is_name n w) (names_of ps)
      ≡ is_some (of_name (parcels_of ps) w)
  found-any [] w = refl
  found-any (p ∷ ps) w = by (is_name (p.value.number, p.after) w) (found-any ps w)
    where
      by : (c : Bool) → list_any (λ n. is_name n w) (names_of ps) ≡ is_some (of_name (parcels_of ps) w)
          → (c || list_any (λ n. is_name n w) (names_of ps))
          ≡ is_some (cond c (Some (record { value = p.value; after = p.after })) (of_name (parcels_of ps) w))
      by true e = refl
      by false e = e

  -- if no name is left, all are among theirs
  none-left : (ps : List (Parcel N b)) (names : List (ℕ × ℕ))
      → length (filter (λ name. not (is_some (of_name (parcels_of ps) name))) names) ≤ 0
      → list_all (λ w. list_any (λ n. is_name n w) (names_of ps)) names ≡ true
  none-left ps [] none = refl
  none-left ps (w ∷ more) none = by (is_some (of_name (parcels_of ps) w)) (found-any ps w) none (none-left ps more)
    where
      left : List (ℕ × ℕ)
      left = filter (λ name. not (is_some (of_name (parcels_of ps) name))) more

      by : (c : Bool) → list_any (λ n. is_name n w) (names_of ps) ≡ c → length (cond (not c) (w ∷ left) left) ≤ 0
          → (length left ≤ 0 → list_all (λ v. list_any (λ n. is_name n v) (names_of ps)) more ≡ true)
          → (list_any (λ n. is_name n w) (names_of ps)
          && list_all (λ v. list_any (λ n. is_name n v) (names_of ps)) more) ≡ true
      by true e few rest = and_from _ _ e (rest few)
      by false e few rest = absurd (omega (arith, few))

  -- with as many parcels as accounts all that are awaited are there
  pub all-came : (day : DayValue) (plan : PlanValue) (place : ℕ) (ps : List (Parcel N b))
      → FitInDock day plan place (parcels_of ps) → length (footprint_at day place) ≤ length ps
      → has_names (names_of ps) (awaited day plan place) ≡ true
  all-came day plan place ps fit all =
      let size : length (parcels_of ps) ≡ length ps = length-map ps _ in
      let named : length (names_of ps) ≡ length ps = length-map ps _ in
      let awaited_are = many-awaited day plan place in
      let none : length (still_awaited day plan place (parcels_of ps)) ≤ 0 = omega (arith, fit, size, all) in
      let same : length (names_of ps) ≡ length (awaited day plan place) =
      omega (arith, fit, size, named, all, awaited_are) in
      and_from _ _ (eq-eqb (length (names_of ps)) (length (awaited day plan place)) same)
      (none-left ps (awaited day plan place) none)
