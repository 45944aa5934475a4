-- So many different numbers, from 1 to their count, are a permutation of these places.
use Rattle.std.proofs.Common.{◌≡◌, ℕ, zero, suc, ◌≤◌, ◌⊎◌, inl, inr, Bool, true, false, ◌||◌, eqb, List, []}
use Rattle.std.proofs.Common.{◌∷◌, ◌++◌, length, arith, refl, sym, ap, subst, ◌∙◌}
use Rattle.std.specs.Prelude.{IsPermutation}
use Rattle.std.specs.List.{IsDistinct, list_any}
use Rattle.std.specs.Cmp.{nat_eq_equiv}
use Rattle.std.proofs.lemmas.Bool.{cases_eq, eqb-true, eqb-false, ne_eqb}
use Rattle.std.proofs.lemmas.List.Sorted.{IsPermutation-refl, IsPermutation-sym, IsPermutation-trans}
use Rattle.std.proofs.lemmas.List.Sorted.{IsPermutation-cons, IsPermutation-to_front, IsPermutation-middle}
use Rattle.std.proofs.lemmas.List.Sorted.{length_permutation}
use Rattle.std.proofs.lemmas.Map.Keys.{IsDistinct-IsPermutation, IsDistinct-head, IsDistinct-tail, IsDistinct-cons}
use Rattle.std.proofs.lemmas.Map.Steps.{length-le_from_distinct_below}
use Rattle.reg_facts.proofs.lemmas.Members.{In, in_either, in_front, in_back, of_member, of_each_member}
use Rattle.reg_base.specs.Rising.{count_up}
use Rattle.reg_base.proofs.lemmas.Rising.{count_up-more}

-- where a number stands in a list, or that it does not
pub record Splits (x : ℕ) (xs : List ℕ) : Type 0 where
  pub front : List ℕ
  pub back : List ℕ
  pub is : xs ≡ front ++ x ∷ back

split : (x : ℕ) (xs : List ℕ) → Splits x xs ⊎ (In x xs → ⊥)
split x [] = inr (λ m. m)
split x (y ∷ ys) = by (cases_eq y x) (split x ys) where
  by : (y ≡ x) ⊎ (y ≡ x → ⊥) → Splits x ys ⊎ (In x ys → ⊥) → Splits x (y ∷ ys) ⊎ (In x (y ∷ ys) → ⊥)
  by (inl e) any = inl (record { front = []; back = ys; is = ap (λ z. z ∷ ys) e })
  by (inr ne) (inl s) = inl (record { front = y ∷ s.front; back = s.back; is = ap (λ zs. y ∷ zs) s.is })
  by (inr ne) (inr none) = inr (λ m. elim m [ inl e ↦ ne e | inr n ↦ none n ])

in_any : (q : ℕ) (xs : List ℕ) → list_any (eqb q) xs ≡ true → In q xs
in_any q [] e = absurd cc
in_any q (x ∷ xs) e = by (eqb q x) refl e (in_any q xs) where
  by : (b : Bool) → eqb q x ≡ b → (b || list_any (eqb q) xs) ≡ true → (list_any (eqb q) xs ≡ true → In q xs)
      → In q (x ∷ xs)
  by true same h more = inl (sym (eqb-true q x same))
  by false other h more = inr (more h)

-- different numbers from 1 to m are at most m
few : (m : ℕ) (xs : List ℕ) → IsDistinct eqb xs → ((x : ℕ) → In x xs → (1 ≤ x) × (x ≤ m)) → length xs ≤ m
few m xs distinct within =
    let zero_apart : IsDistinct eqb (0 ∷ xs) =
    IsDistinct-cons eqb 0 xs (of_each_member (λ y. eqb 0 y ≡ false) xs
    (λ y n. ne_eqb 0 y (λ e. omega (arith, e, (within y n).0)))) distinct in
    let bound : length (0 ∷ xs) ≤ suc m =
    length-le_from_distinct_below (0 ∷ xs) (suc m) zero_apart (λ q e. elim (in_any q (0 ∷ xs) e) [
      | inl at ↦ omega (arith, at)
      | inr n ↦ omega (arith, (within q n).1)
    ]) in
    omega (arith, bound)

pub all_places : (m : ℕ) (xs : List ℕ) → length xs ≡ m → IsDistinct eqb xs → ((x : ℕ) → In x xs → (1 ≤ x) × (x ≤ m))
    → IsPermutation (count_up 1 m) xs
all_places zero [] size distinct within = IsPermutation-refl []
all_places zero (x ∷ xs) size distinct within = absurd (omega arith)
all_places (suc m) xs size distinct within = by (split (suc m) xs) (all_places m) where
  by : Splits (suc m) xs ⊎ (In (suc m) xs → ⊥)
      → ((ys : List ℕ) → length ys ≡ m → IsDistinct eqb ys → ((x : ℕ) → In x ys → (1 ≤ x) × (x ≤ m))
      → IsPermutation (count_up 1 m) ys) → IsPermutation (count_up 1 (suc m)) xs
  by (inr none) more =
      let le : length xs ≤ m = few m xs distinct (λ x n. ((within x n).0, below x n)) in
      absurd (omega (arith, le, size)) where
        below : (x : ℕ) → In x xs → x ≤ m
        below x n = elim (cases_eq x (suc m))
            [ inl e ↦ absurd (none (subst (λ y. In y xs) e n)) | inr ne ↦ omega (arith, ne, (within x n).1) ]
  by (inl s) more =
      let moved : IsPermutation xs (suc m ∷ (s.front ++ s.back)) =
      subst (λ zs. IsPermutation zs (suc m ∷ (s.front ++ s.back))) (sym s.is)
      (IsPermutation-middle s.front (suc m) s.back) in
      let apart : IsDistinct eqb (suc m ∷ (s.front ++ s.back)) =
      IsDistinct-IsPermutation eqb nat_eq_equiv.symm xs (suc m ∷ (s.front ++ s.back)) moved distinct in
      let rest : IsPermutation (count_up 1 m) (s.front ++ s.back) =
      more (s.front ++ s.back) (count moved) (IsDistinct-tail eqb (suc m) (s.front ++ s.back) apart)
      (λ x n. (low x n, high apart x n)) in
      let counted : IsPermutation (count_up 1 (suc m)) (suc m ∷ count_up 1 m) =
      subst (λ zs. IsPermutation zs (suc m ∷ count_up 1 m))
      (sym (count_up-more 1 m ∙ ap (λ n. count_up 1 m ++ n ∷ []) (omega arith)))
      (IsPermutation-to_front (count_up 1 m) (suc m)) in
      IsPermutation-trans (count_up 1 (suc m)) (suc m ∷ count_up 1 m) xs counted
      (IsPermutation-trans (suc m ∷ count_up 1 m) (suc m ∷ (s.front ++ s.back)) xs
      (IsPermutation-cons (suc m) (count_up 1 m) (s.front ++ s.back) rest)
      (IsPermutation-sym xs (suc m ∷ (s.front ++ s.back)) moved)) where
        count : IsPermutation xs (suc m ∷ (s.front ++ s.back)) → length (s.front ++ s.back) ≡ m
        count moved = omega (arith, length_permutation xs (suc m ∷ (s.front ++ s.back)) moved, size)

        there : (x : ℕ) → In x (s.front ++ s.back) → In x xs
        there x n = subst (In x) (sym s.is) (elim (in_either s.front s.back x n) [
          | inl a ↦ in_front s.front (suc m ∷ s.back) x a
          | inr b ↦ in_back s.front (suc m ∷ s.back) x (inr b)
        ])

        low : (x : ℕ) → In x (s.front ++ s.back) → 1 ≤ x
        low x n = (within x (there x n)).0

        high : IsDistinct eqb (suc m ∷ (s.front ++ s.back)) → (x : ℕ) → In x (s.front ++ s.back) → x ≤ m
        high apart x n =
            let ne : eqb (suc m) x ≡ false = of_member (λ y. eqb (suc m) y ≡ false) (s.front ++ s.back) x
            (IsDistinct-head eqb (suc m) (s.front ++ s.back) apart) n in
            let other : suc m ≡ x → ⊥ = eqb-false (suc m) x ne in
            omega (arith, other, (within x (there x n)).1)
