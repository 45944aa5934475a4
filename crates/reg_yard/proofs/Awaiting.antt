-- What a place still awaits, and that it is less after each parcel.
use Rattle.std.proofs.Common.{◌≡◌, ℕ, ◌<◌, ◌≤◌, Bool, true, false, cond, ◌&&◌, ◌||◌, List, [], ◌∷◌, ◌++◌, length}
use Rattle.std.proofs.Common.{length-append, Some, None, arith, refl, sym, ap, ◌∙◌}
use Rattle.std.specs.Prelude.{not, filter, is_some, Contains}
use Rattle.std.specs.List.{list_any}
use Rattle.std.proofs.lemmas.List.Elements.{Contains-append_right}
use Rattle.reg_plan.specs.Plans.{PlanValue}
use Rattle.reg_book.specs.Day.{DayValue}
use Rattle.reg_schedules.specs.Docks.{ParcelValue, is_name, name_of, awaited, of_name, still_awaited, is_not_awaited}
use Rattle.reg_tasks.specs.declared.naming.Naming.{Ghosts}
use Rattle.reg_tasks.specs.declared.parcel.Parcel.{Parcel}
use Rattle.reg_tasks.specs.Parcels.{parcels_of}
use Rattle.reg_yard.specs.Parcels.{parcel_of}
use Rattle.reg_yard.specs.Held.{FitInDock}

-- the names of which a parcel came, after one more
came-more : (came : List ParcelValue) (p : ParcelValue) (n : ℕ × ℕ) → not (is_some (of_name (came ++ p ∷ []) n))
    ≡ (not (is_some (of_name came n)) && not (is_name (name_of p) n))
came-more [] p n = by (is_name (name_of p) n)
  where
    by : (b : Bool) → not (is_some (cond b (Some p) None)) ≡ not b
    by true = refl
    by false = refl
came-more (q ∷ came) p n = by (is_name (name_of q) n) (came-more came p n)
  where
    by : (b : Bool) → not (is_some (of_name (came ++ p ∷ []) n))
        ≡ (not (is_some (of_name came n)) && not (is_name (name_of p) n))
        → not (is_some (cond b (Some q) (of_name (came ++ p ∷ []) n)))
        ≡ (not (is_some (cond b (Some q) (of_name came n))) && not (is_name (name_of p) n))
    by true e = refl
    by false e = e

-- what stays if some go that another test tells
abbrev Fewer : {X : Type 0} → (X → Bool) → List X → List X → Type 0
Fewer gone all some = (length some ≤ length all) × (list_any gone all ≡ true → length some < length all)

fewer-of : {X : Type 0} (keep less gone : X → Bool) → ((x : X) → less x ≡ (keep x && not (gone x))) → (xs : List X)
    → Fewer gone (filter keep xs) (filter less xs)
fewer-of keep less gone is [] = (omega arith, λ e. absurd cc)
fewer-of {X = X} keep less gone is (x ∷ xs) = by (keep x) (gone x) (less x) refl (is x) (fewer-of keep less gone is xs)
  where
    by : (b c d : Bool) → gone x ≡ c → d ≡ (b && not c) → Fewer gone (filter keep xs) (filter less xs)
        → Fewer gone (cond b (x ∷ filter keep xs) (filter keep xs)) (cond d (x ∷ filter less xs) (filter less xs))
    by true true false e f rest = (omega (arith, rest.0), λ h. omega (arith, rest.0))
    by true true true e f rest = absurd cc
    by true false true e f rest = (
      omega (arith, rest.0),
      λ h. let lt : length (filter less xs)
          < length (filter keep xs) = rest.1 (sym (ap (λ c. c || list_any gone (filter keep xs)) e) ∙ h) in
          omega (arith, lt),
    )
    by true false false e f rest = absurd cc
    by false c false e f rest = rest
    by false c true e f rest = absurd cc

module _ (day : DayValue) (plan : PlanValue) (place : ℕ) where
  wanted : (came : List ParcelValue) (p : ParcelValue) → is_not_awaited day plan place came p ≡ false
      → list_any (is_name (name_of p)) (still_awaited day plan place came) ≡ true
  wanted came p e = by (list_any (is_name (name_of p)) (still_awaited day plan place came)) e
    where
      by : (b : Bool) → not b ≡ false → b ≡ true
      by true f = refl
      by false f = absurd cc

  -- one parcel more
  pub few-more : (came : List ParcelValue) (p : ParcelValue) → FitInDock day plan place came
      → is_not_awaited day plan place came p ≡ false → FitInDock day plan place (came ++ p ∷ [])
  few-more came p few e =
      let less : length (still_awaited day plan place (came ++ p ∷ [])) < length (still_awaited day plan place came) =
      (fewer-of (λ n. not (is_some (of_name came n))) (λ n. not (is_some (of_name (came ++ p ∷ []) n)))
      (is_name (name_of p)) (came-more came p) (awaited day plan place)).1 (wanted came p e) in
      omega (arith, few, less, length-append came (p ∷ []))

-- what a test that failed says
pub not-so : (b : Bool) → true ≡ not b → b ≡ false
not-so true e = absurd cc
not-so false e = refl

module _ {N : Type 0} {b : Ghosts N} where
  -- what parcels hold, with one more
  pub with-one : (ps : List (Parcel N b)) (p : Parcel N b)
      → parcels_of (ps ++ p ∷ []) ≡ parcels_of ps ++ parcel_of p ∷ []
  with-one [] p = refl
  with-one (q ∷ ps) p = ap (λ rest. parcel_of q ∷ rest) (with-one ps p)

  -- the one that came last is among them
  pub last-there : (ps : List (Parcel N b)) (p : Parcel N b) → Contains (ps ++ p ∷ []) p
  last-there ps p = Contains-append_right ps (p ∷ []) p (0, omega arith, refl)
