-- Numbers counted: those from 1 on, and those of items in an order in which they do not fall.
use Rattle.std.proofs.Common.{◌≡◌, ℕ, zero, suc, ◌+◌, ◌<◌, ◌≤◌, eqb, ◌==◌, List, [], ◌∷◌, ◌++◌, map, length, get_or}
use Rattle.std.proofs.Common.{refl, sym, ap, ◌∙◌, inl, inr, arith}
use Rattle.std.specs.Prelude.{IsPermutation}
use Rattle.std.specs.List.{range_with_len, sum_by}
use Rattle.std.specs.List.Sorted.{IsNonDecreasingBy}
use Rattle.std.proofs.lemmas.Bool.{cases_eq, cases_lt, eq-eqb, ne_eqb}
use Rattle.std.proofs.lemmas.List.Sorted.{IsPermutation-map, sum_by-IsPermutation}
use Rattle.std.proofs.lemmas.List.Sums.{sum_by-cons}
use Rattle.reg_base.specs.Rising.{count_up}
use Rattle.reg_facts.specs.Counting.{one_if, total, times, once}
use Rattle.reg_facts.specs.Lists.{first_numbers}
use Rattle.reg_facts.proofs.lemmas.Times.{apart-none, equal-one, once-yes, once-past, once-zero}

-- two words for the numbers below one
pub range-first : (n : ℕ) → range_with_len 0 n ≡ first_numbers n
range-first zero = refl
range-first (suc n) =
    let e : 0 + n ≡ n = omega arith in
    go n 0 ∙ ap (λ x. range_with_len 0 n ++ x ∷ []) e ∙ ap (λ ns. ns ++ n ∷ []) (range-first n)
  where
    go : (m f : ℕ) → range_with_len f (suc m) ≡ range_with_len f m ++ (f + m) ∷ []
    go zero f = let e : f ≡ f + 0 = omega arith in ap (λ x. x ∷ []) e
    go (suc m) f =
        let e : f + 1 + m ≡ f + suc m = omega arith in
        ap (λ xs. f ∷ xs) (go m (f + 1)) ∙ ap (λ x. f ∷ (range_with_len (f + 1) m ++ x ∷ [])) e

count-below : (p a n : ℕ) → p < a → times p (count_up a n) ≡ 0
count-below p a zero lt = refl
count-below p a (suc n) lt =
    let none : one_if (eqb a p) ≡ 0 = ap one_if (ne_eqb a p (λ e. omega (arith, lt, e))) in
    let later = count-below p (a + 1) n (omega (arith, lt)) in
    omega (arith, none, later)

count-in : (p a n : ℕ) → a ≤ p → p < a + n → times p (count_up a n) ≡ 1
count-in p a zero low high = absurd (omega (arith, low, high))
count-in p a (suc n) low high = elim (cases_eq a p) [
  | inl at ↦
      let here : one_if (eqb a p) ≡ 1 = ap one_if (eq-eqb a p at) in
      let later = count-below p (a + 1) n (omega (arith, at)) in
      omega (arith, here, later)
  | inr other ↦
      let none : one_if (eqb a p) ≡ 0 = ap one_if (ne_eqb a p other) in
      let above : a + 1 ≤ p = elim (cases_lt p (a + 1)) [
        | inl lt ↦ absurd (other (omega (arith, low, lt)))
        | inr le ↦ le
      ] in
      let later = count-in p (a + 1) n above (omega (arith, high)) in
      omega (arith, none, later)
]

count-beyond : (p a n : ℕ) → a + n ≤ p → times p (count_up a n) ≡ 0
count-beyond p a zero le = refl
count-beyond p a (suc n) le =
    let none : one_if (eqb a p) ≡ 0 = ap one_if (ne_eqb a p (λ e. omega (arith, le, e))) in
    let later = count-beyond p (a + 1) n (omega (arith, le)) in
    omega (arith, none, later)

-- the numbers from 1 on, each once
pub times-count : (n p : ℕ) → times p (count_up 1 n) ≡ once n p
times-count n p = elim (cases_lt p 1) [
  | inl low ↦
      let none : p ≡ 0 = omega (arith, low) in
      count-below p 1 n low ∙ sym (once-zero n) ∙ ap (once n) (sym none)
  | inr one ↦ elim (cases_lt n p) [
    | inl high ↦ count-beyond p 1 n (omega (arith, high)) ∙ sym (once-past n p high)
    | inr le ↦ count-in p 1 n one (omega (arith, le)) ∙ sym (once-yes n p one le)
  ]
]

total-sum_by : {X : Type 0} (f : X → ℕ) (xs : List X) → total f xs ≡ sum_by f xs
total-sum_by f [] = refl
total-sum_by f (x ∷ xs) = ap (λ n. f x + n) (total-sum_by f xs) ∙ sym (sum_by-cons f x xs)

total-permuted : {X : Type 0} (f : X → ℕ) (xs ys : List X) → IsPermutation xs ys → total f ys ≡ total f xs
total-permuted f xs ys same =
    total-sum_by f ys ∙ sum_by-IsPermutation f xs ys same ∙ sym (total-sum_by f xs)

-- the numbers from 1 on, in any order, stand there once each
pub once-permuted : (n p : ℕ) (ns : List ℕ) → IsPermutation (count_up 1 n) ns → times p ns ≡ once n p
once-permuted n p ns same = total-permuted (λ x. one_if (x == p)) (count_up 1 n) ns same ∙ times-count n p

-- in another order, each number stands as often
pub times-permuted : {X : Type 0} (f : X → ℕ) (p : ℕ) (xs ys : List X) → IsPermutation xs ys
    → times p (map f ys) ≡ times p (map f xs)
times-permuted f p xs ys same =
    total-permuted (λ x. one_if (x == p)) (map f xs) (map f ys) (IsPermutation-map f xs ys same)

module _ {X : Type 0} (f : X → ℕ) where
  -- a number below those of all items stands in none
  below-all : (xs : List X) (low p : ℕ) → ((j : ℕ) (d : X) → j < length xs → low ≤ f (get_or xs j d)) → p < low
      → times p (map f xs) ≡ 0
  below-all [] low p least lt = refl
  below-all (x ∷ xs) low p least lt =
      let here = least 0 x (omega arith) in
      let none = apart-none (f x) p (λ e. omega (arith, here, lt, e)) in
      let rest = below-all xs low p (λ j d within. least (suc j) d (omega (arith, within))) lt in
      omega (arith, none, rest)

  -- items whose numbers do not fall, and are these from one on, have them in this order
  rising-counts : (xs : List X) (k n : ℕ) → IsNonDecreasingBy f xs
      → ((p : ℕ) → times p (map f xs) ≡ times p (count_up k n)) → map f xs ≡ count_up k n
  rising-counts [] k zero rises same = refl
  rising-counts [] k (suc n) rises same =
      let here = same k in let one = equal-one k k refl in absurd (omega (arith, here, one))
  rising-counts (x ∷ xs) k zero rises same =
      let here = same (f x) in let one = equal-one (f x) (f x) refl in absurd (omega (arith, here, one))
  rising-counts (x ∷ xs) k (suc n) rises same =
      let first : f x ≡ k = elim (cases_lt (f x) k) [
        | inl lt ↦
            let here = same (f x) in
            let one = equal-one (f x) (f x) refl in
            let none = count-below (f x) k (suc n) lt in
            absurd (omega (arith, here, one, none))
        | inr le ↦ elim (cases_lt k (f x)) [
          | inl lt ↦
              let here = same k in
              let one = equal-one k k refl in
              let none = apart-none (f x) k (λ e. omega (arith, lt, e)) in
              let rest = below-all xs (f x) k (λ j d within. rises 0 (suc j) d (omega arith) (omega (arith, within)))
              lt in
              absurd (omega (arith, here, one, none, rest))
          | inr ge ↦ omega (arith, le, ge)
        ]
      ] in
      let rest : map f xs ≡ count_up (k + 1) n = rising-counts xs (k + 1) n
      (λ i j d le within. rises (suc i) (suc j) d (omega (arith, le)) (omega (arith, within))) (λ p.
      let here = same p in let one = ap (λ z. one_if (z == p)) first in omega (arith, here, one)) in
      ap (λ z. z ∷ map f xs) first ∙ ap (λ ns. k ∷ ns) rest

  -- so have items that were sorted by their numbers, if each number stands once
  pub sorted-counts : (xs ys : List X) → ((p : ℕ) → times p (map f ys) ≡ times p (map f xs)) → IsNonDecreasingBy f ys
      → (n : ℕ) → ((p : ℕ) → times p (map f xs) ≡ once n p) → map f ys ≡ count_up 1 n
  sorted-counts xs ys moved rises n each =
      rising-counts ys 1 n rises (λ p. moved p ∙ each p ∙ sym (times-count n p))
