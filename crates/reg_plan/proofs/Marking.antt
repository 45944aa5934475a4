-- Which numbers have come, by marks.
use Rattle.std.proofs.Common.{◌≡◌, ℕ, suc, ◌+◌, ◌-◌, ◌<◌, ◌≤◌, inl, inr, Bool, true, false, cond, ◌&&◌, ◌||◌, eqb, leb}
use Rattle.std.proofs.Common.{List, [], ◌∷◌, ◌++◌, length, get_or, set, take, drop, drop-cons, arith, Some, None, refl}
use Rattle.std.proofs.Common.{sym, ap, subst, ◌∙◌}
use Rattle.std.specs.Prelude.{find, not, All}
use Rattle.std.specs.List.{AllByRecursion}
use Rattle.std.specs.Option.{option_map, option_or}
use Rattle.std.proofs.lemmas.Bool.{cases_eq, eq-eqb, ne_eqb, leb-true}
use Rattle.std.proofs.lemmas.List.{get_or-set_same, get_or-set_other, length-set, take_more, length-take}
use Rattle.std.proofs.lemmas.List.Elements.{All-filter, recursion_from_All}
use Rattle.std.proofs.lemmas.List.Folds.{list_any_more}
use Rattle.reg_base.specs.Footprint.{is_among}
use Rattle.reg_plan.specs.declared.arrow.Arrow.{Arrow}
use Rattle.reg_plan.specs.declared.order.OrderFault.TheVariants.{Number, Repeated}
use Rattle.reg_plan.specs.Plans.{inward, IsBetween}
use Rattle.reg_plan.specs.Orders.{fault_at, marked, waits, first_fault_after}

-- these are the marks of these numbers
pub record AreMarks (before : List ℕ) (marks : List Bool) : Type 0 where
  pub each : (number : ℕ) → 1 ≤ number → number ≤ length marks → marked marks number ≡ is_among before number

pub marks_more : (order : List ℕ) (k : ℕ) (x : ℕ) (marks : List Bool) → k < length order → x ≡ get_or order k 0 → 1 ≤ x
    → x ≤ length marks → AreMarks (take k order) marks
    → AreMarks (take (k + 1) order) (set marks (x - 1) true)
marks_more order k x marks lt is le within old = record {
  each = λ number low high. elim (cases_eq x number) [
    | inl e ↦ subst (λ n. marked (set marks (x - 1) true) n ≡ is_among (take (k + 1) order) n) e
        (get_or-set_same marks (x - 1) true false (omega arith)
        ∙ sym (added x ∙ ap (λ b. is_among (take k order) x || b) (eq-eqb x x refl)
        ∙ or_true (is_among (take k order) x)))
    | inr ne ↦
        get_or-set_other marks (x - 1) (number - 1) true false (λ e. ne (omega (arith, e, low)))
        ∙ old.each number low (omega (arith, high, length-set marks (x - 1) true))
        ∙ sym (added number ∙ ap (λ b. is_among (take k order) number || b) (ne_eqb x number ne)
        ∙ or_false (is_among (take k order) number))
  ];
} where
  or_true : (b : Bool) → (b || true) ≡ true
  or_true true = refl
  or_true false = refl

  or_false : (b : Bool) → (b || false) ≡ b
  or_false true = refl
  or_false false = refl

  added : (n : ℕ) → is_among (take (k + 1) order) n ≡ (is_among (take k order) n || eqb x n)
  added n = list_any_more (λ m. eqb m n) order k 0 lt ∙ ap (λ m. is_among (take k order) n || eqb m n) (sym is)

find_agree : {X : Type 0} (p q : X → Bool) (xs : List X) → AllByRecursion (λ x. p x ≡ q x) xs → find p xs ≡ find q xs
find_agree p q [] all = refl
find_agree p q (x ∷ xs) all =
    ap (λ b. cond b (Some x) (find p xs)) all.0 ∙ ap (λ o. cond (q x) (Some x) o) (find_agree p q xs all.1)

-- by marks or by the numbers themselves
pub same_fault : (arrows : List Arrow) (before : List ℕ) (marks : List Bool) (position number : ℕ)
    → All (IsBetween (length marks)) arrows → AreMarks before marks
    → fault_at arrows (length marks) (marked marks) position number
    ≡ fault_at arrows (length marks) (is_among before) position number
same_fault arrows before marks position number between are = by (leb 1 number && leb number (length marks)) refl where
  both : (a b : Bool) → (a && b) ≡ true → (a ≡ true) × (b ≡ true)
  both true b h = (refl, h)
  both false b h = absurd cc

  tails : find (λ (w : Arrow). not (marked marks w.from)) (inward arrows number)
      ≡ find (λ (w : Arrow). not (is_among before w.from)) (inward arrows number)
  tails = find_agree (λ (w : Arrow). not (marked marks w.from)) (λ (w : Arrow). not (is_among before w.from))
      (inward arrows number)
      (recursion_from_All (λ (w : Arrow). not (marked marks w.from) ≡ not (is_among before w.from))
      (inward arrows number)
      (All-filter (λ (w : Arrow). eqb w.to number) (λ (w : Arrow). not (marked marks w.from)
      ≡ not (is_among before w.from)) arrows
      (λ k d lt. ap not (are.each (get_or arrows k d).from (between k d lt).from_one
      (omega (arith, (between k d lt).forward, (between k d lt).within))))))

  by : (b : Bool) → (leb 1 number && leb number (length marks)) ≡ b
      → cond b (cond (marked marks number) (Some (Repeated position))
      (option_map waits (find (λ (w : Arrow). not (marked marks w.from)) (inward arrows number))))
      (Some (Number position))
      ≡ cond b (cond (is_among before number) (Some (Repeated position))
      (option_map waits (find (λ (w : Arrow). not (is_among before w.from)) (inward arrows number))))
      (Some (Number position))
  by false e = refl
  by true e =
      let range : (leb 1 number ≡ true) × (leb number (length marks) ≡ true) =
      both (leb 1 number) (leb number (length marks)) e in
      ap (λ c. cond c (Some (Repeated position))
      (option_map waits (find (λ (w : Arrow). not (marked marks w.from)) (inward arrows number))))
      (are.each number (leb-true 1 number range.0) (leb-true number (length marks) range.1))
      ∙ ap (λ o. cond (is_among before number) (Some (Repeated position)) (option_map waits o)) tails

-- a number without a fault is a place
pub no_fault_place : (arrows : List Arrow) (n : ℕ) (has_come : ℕ → Bool) (position number : ℕ)
    → fault_at arrows n has_come position number ≡ None → (1 ≤ number) × (number ≤ n)
no_fault_place arrows n has_come position number h = by (leb 1 number) refl (leb number n) refl h where
  by : (a : Bool) → leb 1 number ≡ a → (b : Bool) → leb number n ≡ b
      → cond (a && b) (cond (has_come number) (Some (Repeated position))
      (option_map waits (find (λ (w : Arrow). not (has_come w.from)) (inward arrows number))))
      (Some (Number position)) ≡ None → (1 ≤ number) × (number ≤ n)
  by true ea true eb h' = (leb-true 1 number ea, leb-true number n eb)
  by true ea false eb h' = absurd cc
  by false ea b eb h' = absurd cc

-- one number more
pub faults_more : (arrows : List Arrow) (n : ℕ) (order : List ℕ) (k x : ℕ) → k < length order → x ≡ get_or order k 0
    → first_fault_after arrows n (take k order) (drop k order)
    ≡ option_or (fault_at arrows n (is_among (take k order)) (k + 1) x)
    (first_fault_after arrows n (take (k + 1) order) (drop (k + 1) order))
faults_more arrows n order k x lt is =
    ap (first_fault_after arrows n (take k order)) (drop-cons order k 0 lt ∙ ap (λ y. y ∷ drop (suc k) order) (sym is))
    ∙ ap (λ p. option_or (fault_at arrows n (is_among (take k order)) p x)
    (first_fault_after arrows n (take k order ++ x ∷ []) (drop (suc k) order))) position
    ∙ ap (λ xs. option_or (fault_at arrows n (is_among (take k order)) (k + 1) x)
    (first_fault_after arrows n xs (drop (suc k) order))) (ap (λ y. take k order ++ y ∷ []) is
    ∙ sym (take_more order k 0 lt))
    ∙ ap (λ j. option_or (fault_at arrows n (is_among (take k order)) (k + 1) x)
    (first_fault_after arrows n (take (k + 1) order) (drop j order))) next where
      position : suc (length (take k order)) ≡ k + 1
      position = omega (arith, length-take k order, lt)

      next : suc k ≡ k + 1
      next = omega arith
