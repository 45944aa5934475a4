-- The parcels of a complete task, found by their names, are those of the task itself.
use Rattle.std.proofs.Common.{◌≡◌, ℕ, zero, suc, Bool, true, false, cond, ◌&&◌, ◌||◌, eqb, List, [], ◌∷◌, length, map}
use Rattle.std.proofs.Common.{Option, Some, None, arith, refl, sym, ap, subst, ◌∙◌}
use Rattle.std.specs.Prelude.{slice_get, IsPermutation, if◌then◌else◌}
use Rattle.std.specs.Option.{option_map}
use Rattle.std.specs.List.{AllByRecursion, IsDistinct, list_any, list_all}
use Rattle.std.proofs.lemmas.Bool.{eq-eqb, and_from, or_left, or_right}
use Rattle.std.proofs.lemmas.List.Sorted.{All-permutation, IsPermutation-sym, IsPermutation-map, list_any-IsPermutation}
use Rattle.std.proofs.lemmas.List.Sorted.{length_permutation}
use Rattle.std.proofs.lemmas.List.Elements.{All-from_recursion, recursion_from_All}
use Rattle.reg_facts.proofs.lemmas.Numbers.{clash}
use Rattle.reg_plan.specs.Plans.{PlanValue, inward}
use Rattle.reg_book.specs.Day.{DayValue}
use Rattle.reg_schedules.specs.Pool.{footprint_at}
use Rattle.reg_schedules.specs.Docks.{is_name, ParcelValue, of_name, before_all, of_names, awaited, complete}
use Rattle.reg_tasks.specs.Names.{has_names}
use Rattle.reg_tasks.specs.Parcels.{names_of}
use Rattle.reg_tasks.specs.Parcels.{parcels_of}
use Rattle.reg_tasks.specs.declared.naming.Naming.{Ghosts}
use Rattle.reg_tasks.specs.declared.parcel.Parcel.{Parcel}
use Rattle.reg_schedules.proofs.lemmas.WorldFits.{name_is, names_are, same_name, task_with}
use Rattle.reg_schedules.proofs.lemmas.WorldSent.{firsts}

-- a parcel with this name is there, and it is the first one that is found
found : (ps : List ParcelValue) (q : ParcelValue) → AllByRecursion (λ p. name_is p ≡ name_is q → p ≡ q) ps
    → list_any (λ n. is_name n (name_is q)) (names_are ps) ≡ true → of_name ps (name_is q) ≡ Some q
found [] q all e = absurd cc
found (p ∷ ps) q all e = by (is_name (name_is p) (name_is q)) refl e (found ps q all.1)
  where
    by : (b : Bool) → is_name (name_is p) (name_is q) ≡ b → (b || list_any (λ n. is_name n (name_is q)) (names_are ps))
        ≡ true
        → (list_any (λ n. is_name n (name_is q)) (names_are ps) ≡ true → of_name ps (name_is q) ≡ Some q)
        → cond b (Some p) (of_name ps (name_is q)) ≡ Some q
    by true f g rest = ap Some (all.0 (same_name (name_is p) (name_is q) f))
    by false f g rest = rest g

-- of parcels of different accounts, those with one name are one
others : (ps : List ParcelValue) (a : ℕ) (q : ParcelValue)
    → AllByRecursion (λ n. eqb a n ≡ false) (map (λ p. p.value.number) ps) → a ≡ q.value.number
    → AllByRecursion (λ p. name_is p ≡ name_is q → p ≡ q) ps
others [] a q all same = tt
others (p ∷ ps) a q all same = (
  (λ e. absurd (clash (eq-eqb a p.value.number (same ∙ sym (ap (λ (n : ℕ × ℕ). n.0) e))) all.0)),
  others ps a q all.1 same,
)

numbers-apart : (ps : List ParcelValue) (a : ℕ) (k : ℕ) (q : ParcelValue)
    → AllByRecursion (λ n. eqb a n ≡ false) (map (λ p. p.value.number) ps) → slice_get ps k ≡ Some q
    → eqb a q.value.number ≡ false
numbers-apart [] a k q all e = absurd cc
numbers-apart (p ∷ ps) a zero q all e = let is : p ≡ q = cc in
    subst (λ (r : ParcelValue). eqb a r.value.number ≡ false) is all.0
numbers-apart (p ∷ ps) a (suc k) q all e = numbers-apart ps a k q all.1 e

only : (ps : List ParcelValue) → IsDistinct eqb (map (λ p. p.value.number) ps) → (k : ℕ) (q : ParcelValue)
    → slice_get ps k ≡ Some q → AllByRecursion (λ p. name_is p ≡ name_is q → p ≡ q) ps
unfolding IsDistinct
only [] distinct k q e = absurd cc
only (p ∷ ps) distinct zero q e = let is : p ≡ q = cc in
    ((λ same. is), others ps p.value.number q distinct.0 (ap (λ (r : ParcelValue). r.value.number) is))
only (p ∷ ps) distinct (suc k) q e = (
  (λ same. absurd (clash (eq-eqb p.value.number q.value.number (ap (λ (n : ℕ × ℕ). n.0) same))
      (numbers-apart ps p.value.number k q distinct.0 e))),
  only ps distinct.1 k q e,
)

-- each of the parcels is found in a list that has them in any order
each-found : (ps qs : List ParcelValue)
    → ((k : ℕ) (q : ParcelValue) → slice_get qs k ≡ Some q → of_name ps (name_is q) ≡ Some q)
    → of_names ps (names_are qs) ≡ Some qs
each-found ps [] each = refl
each-found ps (q ∷ qs) each = let one = each 0 q refl in let rest = each-found ps qs (λ k r e. each (suc k) r e) in
    rw (one, rest) refl

there-is : (qs : List ParcelValue) (k : ℕ) (q : ParcelValue) → slice_get qs k ≡ Some q
    → list_any (λ n. is_name n (name_is q)) (names_are qs) ≡ true
there-is [] k q e = absurd cc
there-is (p ∷ ps) zero q e =
    let is : p ≡ q = cc in
    or_left (is_name (name_is p) (name_is q)) (list_any (λ n. is_name n (name_is q)) (names_are ps))
    (subst (λ (r : ParcelValue). is_name (name_is r) (name_is q) ≡ true) (sym is)
    (and_from (eqb q.value.number q.value.number) (eqb q.after q.after)
    (eq-eqb q.value.number q.value.number refl) (eq-eqb q.after q.after refl)))
there-is (p ∷ ps) (suc k) q e =
    or_right (is_name (name_is p) (name_is q)) (list_any (λ n. is_name n (name_is q)) (names_are ps))
    (there-is ps k q e)

pub names-found : (ps qs : List ParcelValue) → IsPermutation ps qs → IsDistinct eqb (map (λ q. q.value.number) qs)
    → of_names ps (names_are qs) ≡ Some qs
names-found ps qs same distinct = each-found ps qs (λ k q e.
    found ps q (recursion_from_All (λ p. name_is p ≡ name_is q → p ≡ q) ps
    (All-permutation (λ p. name_is p ≡ name_is q → p ≡ q) qs ps (IsPermutation-sym ps qs same)
    (All-from_recursion (λ p. name_is p ≡ name_is q → p ≡ q) qs (only qs distinct k q e))))
    (list_any-IsPermutation (λ n. is_name n (name_is q)) (names_are ps) (names_are qs)
    (IsPermutation-map name_is ps qs same) ∙ there-is qs k q e))

-- ---- a task that is complete, and one that is not

names-length : (ps : List ParcelValue) → length (names_are ps) ≡ length ps
names-length [] = refl
names-length (p ∷ ps) = omega (arith, names-length ps)

accounts-of : (qs : List ParcelValue) → map (λ q. q.value.number) qs ≡ map (λ (n : ℕ × ℕ). n.0) (names_are qs)
accounts-of [] = refl
accounts-of (q ∷ qs) = ap (λ ns. q.value.number ∷ ns) (accounts-of qs)

-- the task of a place is complete with parcels that it awaits, in any order
pub complete-of : (day : DayValue) (plan : PlanValue) (place : ℕ) (ps qs : List ParcelValue) → IsPermutation ps qs
    → IsDistinct eqb (footprint_at day place) → names_are qs ≡ awaited day plan place
    → complete day plan place ps ≡ Some (record { place = place; parcels = qs })
complete-of day plan place ps qs same apart names =
    let distinct : IsDistinct eqb (map (λ q. q.value.number) qs) =
    subst (IsDistinct eqb) (sym (accounts-of qs ∙ ap (map (λ (n : ℕ × ℕ). n.0)) names
    ∙ firsts (inward plan.arrows place) (footprint_at day place))) apart in
    let many : eqb (length ps) (length (awaited day plan place))
    ≡ true = eq-eqb (length ps) (length (awaited day plan place)) (sym (length_permutation ps qs same)
    ∙ sym (names-length qs) ∙ ap length names) in
    let found : of_names ps (awaited day plan place) ≡ Some qs =
    subst (λ ns. of_names ps ns ≡ Some qs) names (names-found ps qs same distinct) in
    rw (many, found) refl

missing : (ps : List ParcelValue) (w : ℕ × ℕ) → list_any (λ n. is_name n w) (names_are ps) ≡ false → of_name ps w ≡ None
missing [] w e = refl
missing (p ∷ ps) w e = by (is_name (name_is p) w) e (missing ps w)
  where
    by : (b : Bool) → (b || list_any (λ n. is_name n w) (names_are ps)) ≡ false
        → (list_any (λ n. is_name n w) (names_are ps) ≡ false → of_name ps w ≡ None)
        → cond b (Some p) (of_name ps w) ≡ None
    by true f rest = absurd cc
    by false f rest = rest f

lacking : (ps : List ParcelValue) (wanted : List (ℕ × ℕ))
    → list_all (λ w. list_any (λ n. is_name n w) (names_are ps)) wanted ≡ false → of_names ps wanted ≡ None
lacking ps [] e = absurd cc
lacking ps (w ∷ more) e = by (list_any (λ n. is_name n w) (names_are ps)) refl e (lacking ps more)
  where
    by : (b : Bool) → list_any (λ n. is_name n w) (names_are ps) ≡ b
        → (b && list_all (λ v. list_any (λ n. is_name n v) (names_are ps)) more) ≡ false
        → (list_all (λ v. list_any (λ n. is_name n v) (names_are ps)) more ≡ false → of_names ps more ≡ None)
        → before_all (of_name ps w) (of_names ps more) ≡ None
    by true f g rest = last (of_name ps w) (rest g)
      where
        last : (o : Option ParcelValue) → of_names ps more ≡ None → before_all o (of_names ps more) ≡ None
        last None none = refl
        last (Some p) none = rw none refl
    by false f g rest = let none = missing ps w f in rw none refl

-- it is not complete without one of them, or with another
pub incomplete : (day : DayValue) (plan : PlanValue) (place : ℕ) (ps : List ParcelValue)
    → has_names (names_are ps) (awaited day plan place) ≡ false → complete day plan place ps ≡ None
incomplete day plan place ps e = by (eqb (length ps) (length (awaited day plan place)))
    (ap (λ n. eqb n (length (awaited day plan place)) && list_all (λ w. list_any (λ n. is_name n w) (names_are ps))
    (awaited day plan place)) (sym (names-length ps)) ∙ e)
  where
    by : (b : Bool) → (b && list_all (λ w. list_any (λ n. is_name n w) (names_are ps)) (awaited day plan place)) ≡ false
        → (if b then option_map (task_with place) (of_names ps (awaited day plan place)) else None) ≡ None
    by true f = let none = lacking ps (awaited day plan place) f in rw none refl
    by false f = refl

module _ {N : Type 0} {b : Ghosts N} where
  -- the names of parcels are those of what they hold
  pub names-are : (ps : List (Parcel N b)) → names_are (parcels_of ps) ≡ names_of ps
  names-are [] = refl
  names-are (p ∷ ps) = ap (λ ns. (p.value.number, p.after) ∷ ns) (names-are ps)
