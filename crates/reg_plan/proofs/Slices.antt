-- The arrows of one head, or of one tail, are a slice of arrows in that order.
use Rattle.std.proofs.Common.{◌≡◌, ℕ, zero, suc, ◌+◌, ◌-◌, ◌<◌, ◌≤◌, inl, inr, Bool, true, false, cond, ◌&&◌, eqb, ltb}
use Rattle.std.proofs.Common.{List, [], ◌∷◌, length, get_or, take, drop, arith, tests, refl, ap, subst, sym, ◌∙◌}
use Rattle.std.proofs.Common.{length-drop}
use Rattle.std.specs.Prelude.{filter, not}
use Rattle.std.specs.List.Sorted.{IsPartitionPoint, IsSorted, IsNonDecreasingBy}
use Rattle.std.specs.Ordering.{ordering_then, nat_cmp, is_lt}
use Rattle.std.proofs.lemmas.Bool.{cases_lt, ne_eqb, eq-eqb, ltb-true, ltb-false}
use Rattle.std.proofs.lemmas.List.{take_all, get_or_default}
use Rattle.std.proofs.lemmas.List.Sorted.{IsNonDecreasingBy-from_all_adjacent}
use Rattle.reg_plan.specs.declared.arrow.Arrow.{Arrow}
use Rattle.reg_plan.specs.Arrows.{arrow_order}

kept : {X : Type 0} (p : X → Bool) (ys : List X) (count : ℕ) → count ≤ length ys
    → ((k : ℕ) (d : X) → k < count → p (get_or ys k d) ≡ true)
    → ((k : ℕ) (d : X) → count ≤ k → k < length ys → p (get_or ys k d) ≡ false) → filter p ys ≡ take count ys
kept p [] zero le here past = refl
kept p [] (suc c) le here past = absurd (omega arith)
kept p (y ∷ ys) zero le here past =
    ap (λ b. cond b (y ∷ filter p ys) (filter p ys)) (past 0 y (omega arith) (omega arith))
    ∙ kept p ys zero (omega arith) (λ k d lt. absurd (omega arith))
    (λ k d lo lt. past (suc k) d (omega arith) (omega arith))
kept p (y ∷ ys) (suc c) le here past =
    ap (λ b. cond b (y ∷ filter p ys) (filter p ys)) (here 0 y (omega arith))
    ∙ ap (λ zs. y ∷ zs) (kept p ys c (omega arith) (λ k d lt. here (suc k) d (omega arith))
    (λ k d lo lt. past (suc k) d (omega arith) (omega arith)))

-- fewer elements are below v than below v + 1
pub fewer : {X : Type 0} (n : X → ℕ) (v : ℕ) (xs : List X) (first next : ℕ) → first ≤ length xs
    → IsPartitionPoint (λ y. n y < v) (λ y. v ≤ n y) xs first
    → IsPartitionPoint (λ y. n y < v + 1) (λ y. v + 1 ≤ n y) xs next → first ≤ next
fewer n v [] first next le lower upper = omega (arith, le)
fewer n v (x ∷ xs) first next le lower upper = elim (cases_lt next first) [
  | inl lt ↦ absurd (omega (
    arith,
    lower.0 next x (omega arith) lt,
    upper.1 next x (omega arith) (omega (arith, lt, le)),
  ))
  | inr ge ↦ ge
]

-- the elements from the first that is not below v up to the first that is above v
pub with_key : {X : Type 0} (n : X → ℕ) (v : ℕ) (xs : List X) (first next : ℕ) → first ≤ next → next ≤ length xs
    → IsPartitionPoint (λ y. n y < v) (λ y. v ≤ n y) xs first
    → IsPartitionPoint (λ y. n y < v + 1) (λ y. v + 1 ≤ n y) xs next
    → filter (λ y. eqb (n y) v) xs ≡ take (next - first) (drop first xs)
with_key n v xs zero next le within lower upper =
    let all : next - 0 ≡ next = omega arith in
    kept (λ y. eqb (n y) v) xs next within
    (λ k d lt. eq-eqb (n (get_or xs k d)) v
    (omega (arith, lower.1 k d (omega arith) (omega (arith, lt, within)), upper.0 k d (omega arith) lt)))
    (λ k d lo lt. ne_eqb (n (get_or xs k d)) v (λ e. omega (arith, e, upper.1 k d lo lt)))
    ∙ ap (λ k. take k xs) (sym all)
with_key n v xs (suc f) zero le within lower upper = absurd (omega (arith, le))
with_key n v [] (suc f) (suc m) le within lower upper = absurd (omega (arith, within))
with_key n v (x ∷ xs) (suc f) (suc m) le within lower upper =
    let fewer_left : suc m - suc f ≡ m - f = omega arith in
    ap (λ b. cond b (x ∷ filter (λ y. eqb (n y) v) xs) (filter (λ y. eqb (n y) v) xs))
    (ne_eqb (n x) v (λ e. omega (arith, e, lower.0 0 x (omega arith) (omega arith))))
    ∙ with_key n v xs f m (omega (arith, le)) (omega (arith, within)) (
      λ k d lo lt. lower.0 (suc k) d (omega arith) (omega (arith, lt)),
      λ k d lo lt. lower.1 (suc k) d (omega (arith, lo)) (omega (arith, lt)),
    ) (
      λ k d lo lt. upper.0 (suc k) d (omega arith) (omega (arith, lt)),
      λ k d lo lt. upper.1 (suc k) d (omega (arith, lo)) (omega (arith, lt)),
    )
    ∙ ap (λ k. take k (drop f xs)) (sym fewer_left)

pub rest_is : {X : Type 0} (xs : List X) (first : ℕ) → first ≤ length xs → take (length xs - first) (drop first xs)
    ≡ drop first xs
rest_is xs first le = take_all _ _ (omega (arith, length-drop first xs))

-- sorted arrows do not fall by head
no_fall : (a b c d e f : ℕ) → is_lt (ordering_then (nat_cmp b a) (ordering_then (nat_cmp d c) (nat_cmp f e))) ≡ false
    → a ≤ b
no_fall a b c d e f h = elim (cases_lt b a) [
  | inl lt ↦ absurd (grind (arith, tests, h, lt))
  | inr le ↦ le
]

pub heads_rise : (arrows : List Arrow) → IsSorted arrow_order arrows → IsNonDecreasingBy (λ (w : Arrow). w.to) arrows
heads_rise arrows sorted = IsNonDecreasingBy-from_all_adjacent (λ (w : Arrow). w.to) arrows (λ k d lt.
    no_fall (get_or arrows k d).to (get_or arrows (k + 1) d).to (get_or arrows k d).from (get_or arrows (k + 1) d).from
    (get_or arrows k d).account (get_or arrows (k + 1) d).account
    (sorted k d (omega arith) lt))

-- arrows that tie by their tails are those of one tail
pub ties_are : (place t : ℕ) → (not (is_lt (nat_cmp place t)) && not (is_lt (nat_cmp t place))) ≡ eqb t place
ties_are place t = grind (arith, tests)

-- what the neighbours of a position tell of arrows that rise
pub split_at : {X : Type 0} (n : X → ℕ) (v : ℕ) (xs : List X) (count : ℕ) → IsNonDecreasingBy n xs
    → ((d : X) → 0 < count → n (get_or xs (count - 1) d) < v)
    → ((d : X) → count < length xs → v ≤ n (get_or xs count d)) → count ≤ length xs
    → IsPartitionPoint (λ y. n y < v) (λ y. v ≤ n y) xs count
split_at n v xs count rising low high le = (
  λ k d lo lt. omega (
    arith,
    rising k (count - 1) d (omega (arith, lt)) (omega (arith, le, lt)),
    low d (omega (arith, lt)),
  ),
  λ k d lo lt. omega (arith, rising count k d lo lt, high d (omega (arith, lo, lt))),
)

-- what was read at a position is what stands there, at any default
pub low_at : {X : Type 0} (n : X → ℕ) (v : ℕ) (xs : List X) (i : ℕ) (x d : X) → x ≡ get_or xs i x → i < length xs
    → n x < v → n (get_or xs i d) < v
low_at n v xs i x d is lt low = subst (λ y. n y < v) (is ∙ get_or_default xs i x d lt) low

pub high_at : {X : Type 0} (n : X → ℕ) (v : ℕ) (xs : List X) (i : ℕ) (x d : X) → x ≡ get_or xs i x → i < length xs
    → v ≤ n x → v ≤ n (get_or xs i d)
high_at n v xs i x d is lt high = subst (λ y. v ≤ n y) (is ∙ get_or_default xs i x d lt) high

-- a partition by tests is one by comparisons
pub as_numbers : {X : Type 0} (n : X → ℕ) (v : ℕ) (xs : List X) (count : ℕ)
    → IsPartitionPoint (λ y. ltb (n y) v ≡ true) (λ y. ltb (n y) v ≡ false) xs count
    → IsPartitionPoint (λ y. n y < v) (λ y. v ≤ n y) xs count
as_numbers n v xs count split = (
  λ k d lo lt. ltb-true (n (get_or xs k d)) v (split.0 k d lo lt),
  λ k d lo lt. ltb-false (n (get_or xs k d)) v (split.1 k d lo lt),
)
