-- Rising lists, and numbers counted up: their parts, how many they are, the one at an index, one more at the end.
use Rattle.std.proofs.Common.{◌≡◌, ℕ, zero, suc, ◌+◌, ◌<◌, ◌≤◌, inl, inr, false, eqb, List, [], ◌∷◌, ◌++◌, length}
use Rattle.std.proofs.Common.{get_or, refl, ap, ◌∙◌, arith, add-one, length-append}
use Rattle.std.specs.List.{IsDistinct}
use Rattle.std.proofs.lemmas.Bool.{cases_eq, ne_eqb}
use Rattle.std.proofs.lemmas.List.{get_or_append_left}
use Rattle.reg_facts.proofs.lemmas.Members.{In, of_each_member}
use Rattle.reg_base.specs.Rising.{IsRising, count_up}

pub rising-tail : (x : ℕ) (xs : List ℕ) → IsRising (x ∷ xs) → IsRising xs
rising-tail x xs rising k lt = rw add-one (let h = rising (suc k) (omega arith) in rw add-one at h)

pub rising-right : (xs ys : List ℕ) → IsRising (xs ++ ys) → IsRising ys
rising-right [] ys rising = rising
rising-right (x ∷ xs) ys rising = rising-right xs ys (rising-tail x (xs ++ ys) rising)

pub rising-left : (xs ys : List ℕ) → IsRising (xs ++ ys) → IsRising xs
rising-left xs ys rising k lt =
    let h = rising k (omega (arith, length-append xs ys)) in
    rw (get_or_append_left xs ys 0 k (omega arith), get_or_append_left xs ys 0 (k + 1) lt) at h

-- ---- numbers counted up

pub length-count_up : (first more : ℕ) → length (count_up first more) ≡ more
length-count_up first zero = refl
length-count_up first (suc more) = ap suc (length-count_up (first + 1) more)

pub get_or-count_up : (first more k : ℕ) → k < more → get_or (count_up first more) k 0 ≡ first + k
get_or-count_up first zero k lt = absurd (omega (arith, lt))
get_or-count_up first (suc more) zero lt = omega arith
get_or-count_up first (suc more) (suc k) lt =
    let later = get_or-count_up (first + 1) more k (omega (arith, lt)) in omega (arith, later)

pub count_up-more : (first more : ℕ) → count_up first (suc more) ≡ count_up first more ++ (first + more) ∷ []
count_up-more first zero = let same : first ≡ first + 0 = omega arith in ap (λ (n : ℕ). n ∷ []) same
count_up-more first (suc more) =
    let same : (first + 1) + more ≡ first + suc more = omega arith in
    ap (λ (ns : List ℕ). first ∷ ns)
    (count_up-more (first + 1) more ∙ ap (λ (n : ℕ). count_up (first + 1) more ++ n ∷ []) same)

pub in_count : (first more x : ℕ) → first ≤ x → x < first + more → In x (count_up first more)
in_count first zero x le lt = absurd (omega arith)
in_count first (suc more) x le lt = elim (cases_eq first x) [
  | inl e ↦ inl e
  | inr ne ↦ inr (in_count (first + 1) more x (up ne) (omega arith))
] where
  up : (first ≡ x → ⊥) → first + 1 ≤ x
  up ne = omega (arith, ne)

pub of_count : (first more x : ℕ) → In x (count_up first more) → (first ≤ x) × (x < first + more)
of_count first zero x m = absurd m
of_count first (suc more) x (inl e) = (omega (arith, e), omega (arith, e))
of_count first (suc more) x (inr m) = let h : (first + 1 ≤ x) × (x < first + 1 + more) =
    of_count (first + 1) more x m in (omega (arith, h.0), omega (arith, h.1))

pub distinct-count_up : (first more : ℕ) → IsDistinct eqb (count_up first more)
unfolding IsDistinct
distinct-count_up first zero = tt
distinct-count_up first (suc more) = (
  of_each_member (λ y. eqb first y ≡ false) (count_up (first + 1) more)
      (λ y m. ne_eqb first y (λ e. omega (arith, e, (of_count (first + 1) more y m).0))),
  distinct-count_up (first + 1) more,
)
