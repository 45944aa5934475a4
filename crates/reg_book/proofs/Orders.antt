-- Whether numbers rise, and what sorting makes of them.
use Rattle.std.proofs.Common.{◌≡◌, ℕ, ◌+◌, ◌-◌, ◌<◌, ◌≤◌, true, false, eqb, [], ◌∷◌, length, get_or, sym, ap, ◌∙◌}
use Rattle.std.proofs.Common.{arith, ⊎_elim, tests, is_le, is_gt, nat_cmp}
use Rattle.std.specs.Prelude.{IsPermutation}
use Rattle.std.specs.List.{IsDistinct}
use Rattle.std.specs.List.Sorted.{IsSortedByKey, IsNonDecreasing}
use Rattle.std.proofs.lemmas.Bool.{cases_lt}
use Rattle.std.proofs.lemmas.List.Sorted.{IsPermutation-map, IsNonDecreasingBy-from_sort, All-permutation}
use Rattle.std.proofs.lemmas.List.{get_or-map}
use Rattle.std.proofs.lemmas.Map.Keys.{IsDistinct-IsPermutation, IsStrictlyIncreasing-from_distinct}
use Rattle.std.specs.Cmp.{nat_eq_equiv}
use Rattle.reg_base.specs.Rising.{IsRising}
use Rattle.reg_base.specs.Directory.{DirectoryValue}
use Rattle.reg_account.specs.Account.{AccountValue, IsAccount}
use Rattle.reg_rules.specs.State.{State, numbers}
use Rattle.reg_rules.specs.Effect.{IsBehind}
use Rattle.reg_rules.proofs.lemmas.Accounts.{length-numbers}
use Rattle.reg_book.specs.Book.{IsBookKept, IsBookDraft}
use Rattle.reg_book.proofs.Directories.{number_at, directory_of-permutation}

pub le_of : (x y : ℕ) → is_le (nat_cmp x y) ≡ true → x ≤ y
le_of x y e = grind (arith, tests, e)

-- a number that is not above the one before it
pub no_rise : (xs : State) (next : ℕ) (v w : AccountValue) (x y : ℕ) → 1 ≤ next → next < length xs
    → v ≡ get_or xs next v → w ≡ get_or xs (next - 1) w → x ≡ v.number → y ≡ w.number → x ≤ y → IsRising (numbers xs)
    → ⊥
no_rise xs next v w x y from within at before here there le rising =
    let one : next - 1 + 1 ≡ next = omega arith in
    let h = rising (next - 1) (omega (arith, length-numbers xs)) in
    let low : get_or (numbers xs) (next - 1) 0 ≡ y =
    number_at xs (next - 1) w (omega arith) ∙ ap (λ (o : AccountValue). o.number) (sym before) ∙ sym there in
    let high : get_or (numbers xs) next 0 ≡ x =
    number_at xs next v within ∙ ap (λ (o : AccountValue). o.number) (sym at) ∙ sym here in
    let step : get_or (numbers xs) (next - 1) 0 < get_or (numbers xs) next 0 = rw one at h in
    omega (arith, low, high, step)

-- a number that is above the one before it
pub one_more : (xs : State) (next : ℕ) (v w : AccountValue) (x y : ℕ) → 1 ≤ next → next < length xs
    → v ≡ get_or xs next v → w ≡ get_or xs (next - 1) w → x ≡ v.number → y ≡ w.number → y < x
    → ((k : ℕ) → k + 1 < next → get_or (numbers xs) k 0 < get_or (numbers xs) (k + 1) 0) → (k : ℕ) → k + 1 < next + 1
    → get_or (numbers xs) k 0 < get_or (numbers xs) (k + 1) 0
one_more xs next v w x y from within at before here there lt rising k bound =
    let low : get_or (numbers xs) (next - 1) 0 ≡ y =
    number_at xs (next - 1) w (omega arith) ∙ ap (λ (o : AccountValue). o.number) (sym before) ∙ sym there in
    let high : get_or (numbers xs) next 0 ≡ x =
    number_at xs next v within ∙ ap (λ (o : AccountValue). o.number) (sym at) ∙ sym here in
    ⊎_elim
    (λ (earlier : k + 1 < next). rising k earlier)
    (λ (last : next ≤ k + 1).
    let k_is : k ≡ next - 1 = omega arith in
    let next_is : k + 1 ≡ next = omega arith in
    rw (next_is, k_is) (omega (arith, low, high, lt)))
    (cases_lt (k + 1) next)

-- the numbers of accounts that are sorted by number do not fall
sorted_numbers : (ys : State) → IsSortedByKey (λ (v : AccountValue). v.number) nat_cmp ys → IsNonDecreasing (numbers ys)
sorted_numbers [] sorted i j d le lt = absurd (omega arith)
sorted_numbers (v ∷ vs) sorted i j d le lt =
    let h = IsNonDecreasingBy-from_sort (λ (o : AccountValue). o.number) (v ∷ vs) sorted i j v le
    (omega (arith, length-numbers (v ∷ vs))) in
    rw (
      get_or-map (λ (o : AccountValue). o.number) (v ∷ vs) i v d (omega (arith, length-numbers (v ∷ vs))),
      get_or-map (λ (o : AccountValue). o.number) (v ∷ vs) j v d (omega (arith, length-numbers (v ∷ vs))),
    ) h

-- distinct accounts that are sorted by number rise
pub sorted_rise : (xs ys : State) → IsDistinct eqb (numbers xs) → IsPermutation xs ys
    → IsSortedByKey (λ (v : AccountValue). v.number) nat_cmp ys → IsRising (numbers ys)
sorted_rise xs ys distinct same sorted =
    let distinct_ys = IsDistinct-IsPermutation eqb nat_eq_equiv.symm (numbers xs) (numbers ys)
    (IsPermutation-map (λ (o : AccountValue). o.number) xs ys same) distinct in
    IsStrictlyIncreasing-from_distinct (numbers ys) (sorted_numbers ys sorted) distinct_ys

-- a draft in order is a book
pub kept : (xs ys : State) (directory : DirectoryValue) (next : ℕ) → IsBookDraft xs directory next → IsPermutation xs ys
    → length ys ≡ length xs → IsRising (numbers ys) → IsBookKept ys directory next
kept xs ys directory next draft same len rising = record {
  book = record {
    rising = rising;
    few = omega (arith, len, draft.few);
    within_limits = All-permutation IsAccount xs ys same draft.within_limits;
    next = draft.next_fits;
    behind = All-permutation (IsBehind next) xs ys same draft.behind;
  };
  listed = draft.listed ∙ directory_of-permutation xs ys draft.distinct same;
}

pub gt_of : (x y : ℕ) → true ≡ is_gt (nat_cmp x y) → y < x
gt_of x y e = grind (arith, tests, e)
