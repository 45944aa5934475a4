-- The names that a place needs: whether one is among them, whether it still is after some came, and that they are as
-- many as its accounts.
use Rattle.std.proofs.Common.{◌≡◌, ℕ, Bool, true, false, cond, ◌&&◌, ◌||◌, eqb, List, [], ◌∷◌, arith, refl, sym, ap}
use Rattle.std.proofs.Common.{◌∙◌}
use Rattle.std.specs.Prelude.{not, filter, is_some}
use Rattle.std.specs.List.{list_any}
use Rattle.std.proofs.lemmas.Bool.{eqb-true, and_parts}
use Rattle.std.proofs.lemmas.List.Filters.{length-filter_both}
use Rattle.std.specs.Cmp.{nat_eq_equiv}
use Rattle.std.proofs.Math.Bool.{and-false}
use Rattle.reg_plan.specs.declared.arrow.Arrow.{Arrow}
use Rattle.reg_plan.specs.Plans.{PlanValue, inward}
use Rattle.reg_book.specs.Day.{DayValue}
use Rattle.reg_schedules.specs.Pool.{footprint_at, tail_in}
use Rattle.reg_schedules.specs.Docks.{ParcelValue, is_name, names_needed, awaited, of_name}
use Rattle.reg_schedules.proofs.lemmas.Needed.{length_needed}
use Rattle.reg_yard.specs.Held.{FitInDock}

absorb : (t any : Bool) → (t || (any && t)) ≡ t
absorb true any = refl
absorb false true = refl
absorb false false = refl

-- a name is needed if its account is touched and it stands after the right place
pub needed-any : (arrows : List Arrow) (accounts : List ℕ) (a after : ℕ)
    → list_any (is_name (a, after)) (names_needed arrows accounts)
    ≡ (list_any (λ other. eqb other a) accounts && eqb (tail_in arrows a) after)
needed-any arrows [] a after = refl
needed-any arrows (x ∷ more) a after =
    ap (λ b. (b && eqb after (tail_in arrows x)) || list_any (is_name (a, after)) (names_needed arrows more))
    (nat_eq_equiv.symm a x)
    ∙ by (eqb x a) refl (list_any (is_name (a, after)) (names_needed arrows more))
    (list_any (λ other. eqb other a) more) (needed-any arrows more a after)
  where
    by : (c : Bool) → eqb x a ≡ c → (rest any : Bool) → rest ≡ (any && eqb (tail_in arrows a) after)
        → ((c && eqb after (tail_in arrows x)) || rest) ≡ ((c || any) && eqb (tail_in arrows a) after)
    by true same rest any e =
        ap (λ b. b || rest)
        (nat_eq_equiv.symm after (tail_in arrows x) ∙ ap (λ n. eqb (tail_in arrows n) after) (eqb-true x a same))
        ∙ ap (λ r. eqb (tail_in arrows a) after || r) e
        ∙ absorb (eqb (tail_in arrows a) after) any
    by false other rest any e = e

-- whether one of a list is found, whose first is found or not, and is kept or not
abbrev found : Bool → Bool → Bool → Bool
found c keep rest = cond keep (c || rest) rest

found-kept : (c keep kept any rest : Bool) → (c ≡ true → keep ≡ kept) → rest ≡ (any && kept)
    → found c keep rest ≡ ((c || any) && kept)
found-kept true true kept any rest like ih = like refl
found-kept true false kept any rest like ih = ih ∙ ap (λ k. any && k) (sym (like refl)) ∙ and-false any ∙ like refl
found-kept false true kept any rest like ih = ih
found-kept false false kept any rest like ih = ih

shown : (n x : ℕ × ℕ) (keep : Bool) (xs : List (ℕ × ℕ)) → list_any (is_name n) (cond keep (x ∷ xs) xs)
    ≡ found (is_name n x) keep (list_any (is_name n) xs)
shown n x true xs = refl
shown n x false xs = refl

-- it is still awaited if it is needed and none of this name has come
pub still-any : (came : List ParcelValue) (n : ℕ × ℕ) (names : List (ℕ × ℕ))
    → list_any (is_name n) (filter (λ name. not (is_some (of_name came name))) names)
    ≡ (list_any (is_name n) names && not (is_some (of_name came n)))
still-any came n [] = refl
still-any came n (x ∷ more) =
    shown n x (not (is_some (of_name came x))) (filter (λ name. not (is_some (of_name came name))) more)
    ∙ found-kept (is_name n x) (not (is_some (of_name came x))) (not (is_some (of_name came n)))
    (list_any (is_name n) more)
    (list_any (is_name n) (filter (λ name. not (is_some (of_name came name))) more))
    (λ e. ap (λ name. not (is_some (of_name came name))) (sym (same e))) (still-any came n more)
  where
    same : is_name n x ≡ true → n ≡ x
    same e = let parts = and_parts (eqb n.0 x.0) (eqb n.1 x.1) e in
        λ i. (eqb-true n.0 x.0 parts.0 i, eqb-true n.1 x.1 parts.1 i)

-- as many are awaited at most as the place touches accounts, if nothing came
pub none-few : (day : DayValue) (plan : PlanValue) (place : ℕ) → FitInDock day plan place []
none-few day plan place =
    omega (
      arith,
      length-filter_both (λ n. not (is_some (of_name [] n))) (λ n. not (not (is_some (of_name [] n))))
          (λ n. refl) (awaited day plan place),
      length_needed (inward plan.arrows place) (footprint_at day place),
    )
