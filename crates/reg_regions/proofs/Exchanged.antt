-- What swaps keep, and that swapping back undoes them.
use Rattle.std.proofs.Common.{◌≡◌, ℕ, List, [], ◌∷◌, ◌++◌, map, length}
use Rattle.std.proofs.Common.{refl, sym, ap, subst, ◌∙◌, arith}
use Rattle.std.specs.Prelude.{All, IsPermutation}
use Rattle.std.specs.List.{swap}
use Rattle.std.proofs.lemmas.List.Edits.{length-swap}
use Rattle.std.proofs.lemmas.List.Elements.{All-head, All-tail}
use Rattle.std.proofs.lemmas.List.Sorted.{IsPermutation-refl, IsPermutation-swap, IsPermutation-trans}
use Rattle.reg_facts.proofs.lemmas.Lists.{map-swap, swap-twice}
use Rattle.reg_advice.specs.declared.dealing.Swap.{Swap}
use Rattle.reg_regions.specs.Swaps.{IsSwapWithin, exchanged, exchanged_back}

-- swaps within a list are within one of the same length
within-same : (m n : ℕ) (swaps : List Swap) → m ≡ n → All (IsSwapWithin n) swaps → All (IsSwapWithin m) swaps
within-same m n swaps same all = subst (λ k. All (IsSwapWithin k) swaps) (sym same) all

pub length-exchanged : {X : Type 0} (swaps : List Swap) (xs : List X) → length (exchanged swaps xs) ≡ length xs
length-exchanged [] xs = refl
length-exchanged (s ∷ swaps) xs = length-exchanged swaps (swap xs s.one s.other) ∙ length-swap xs s.one s.other

pub length-back : {X : Type 0} (swaps : List Swap) (xs : List X) → length (exchanged_back swaps xs) ≡ length xs
length-back [] xs = refl
length-back (s ∷ swaps) xs = length-swap (exchanged_back swaps xs) s.one s.other ∙ length-back swaps xs

pub exchanged-undone : {X : Type 0} (swaps : List Swap) (xs : List X) → All (IsSwapWithin (length xs)) swaps
    → exchanged_back swaps (exchanged swaps xs) ≡ xs
exchanged-undone [] xs all = refl
exchanged-undone (s ∷ swaps) xs all =
    let first = All-head (IsSwapWithin (length xs)) s swaps all in
    let rest = within-same (length (swap xs s.one s.other)) (length xs) swaps (length-swap xs s.one s.other)
    (All-tail (IsSwapWithin (length xs)) s swaps all) in
    ap (λ ys. swap ys s.one s.other) (exchanged-undone swaps (swap xs s.one s.other) rest)
    ∙ swap-twice xs s.one s.other first.one first.other

pub map-exchanged : {X Y : Type 0} (f : X → Y) (swaps : List Swap) (xs : List X) → All (IsSwapWithin (length xs)) swaps
    → map f (exchanged swaps xs) ≡ exchanged swaps (map f xs)
map-exchanged f [] xs all = refl
map-exchanged f (s ∷ swaps) xs all =
    let first = All-head (IsSwapWithin (length xs)) s swaps all in
    let rest = within-same (length (swap xs s.one s.other)) (length xs) swaps (length-swap xs s.one s.other)
    (All-tail (IsSwapWithin (length xs)) s swaps all) in
    map-exchanged f swaps (swap xs s.one s.other) rest
    ∙ ap (exchanged swaps) (map-swap f xs s.one s.other first.one first.other)

pub map-back : {X Y : Type 0} (f : X → Y) (swaps : List Swap) (xs : List X) → All (IsSwapWithin (length xs)) swaps
    → map f (exchanged_back swaps xs) ≡ exchanged_back swaps (map f xs)
map-back f [] xs all = refl
map-back f (s ∷ swaps) xs all =
    let first = All-head (IsSwapWithin (length xs)) s swaps all in
    let size : length (exchanged_back swaps xs) ≡ length xs = length-back swaps xs in
    map-swap f (exchanged_back swaps xs) s.one s.other (let lt = first.one in omega (arith, lt, size))
    (let lt = first.other in omega (arith, lt, size))
    ∙ ap (λ ys. swap ys s.one s.other) (map-back f swaps xs (All-tail (IsSwapWithin (length xs)) s swaps all))

pub exchanged-same : {X : Type 0} (swaps : List Swap) (xs : List X) → All (IsSwapWithin (length xs)) swaps
    → IsPermutation xs (exchanged swaps xs)
exchanged-same [] xs all = IsPermutation-refl xs
exchanged-same (s ∷ swaps) xs all =
    let first = All-head (IsSwapWithin (length xs)) s swaps all in
    let rest = within-same (length (swap xs s.one s.other)) (length xs) swaps (length-swap xs s.one s.other)
    (All-tail (IsSwapWithin (length xs)) s swaps all) in
    IsPermutation-trans xs (swap xs s.one s.other) (exchanged swaps (swap xs s.one s.other))
    (IsPermutation-swap xs (swap xs s.one s.other) s.one s.other first.one first.other refl)
    (exchanged-same swaps (swap xs s.one s.other) rest)

pub back-same : {X : Type 0} (swaps : List Swap) (xs : List X) → All (IsSwapWithin (length xs)) swaps
    → IsPermutation xs (exchanged_back swaps xs)
back-same [] xs all = IsPermutation-refl xs
back-same (s ∷ swaps) xs all =
    let first = All-head (IsSwapWithin (length xs)) s swaps all in
    let size : length (exchanged_back swaps xs) ≡ length xs = length-back swaps xs in
    IsPermutation-trans xs (exchanged_back swaps xs) (swap (exchanged_back swaps xs) s.one s.other)
    (back-same swaps xs (All-tail (IsSwapWithin (length xs)) s swaps all))
    (IsPermutation-swap (exchanged_back swaps xs) (swap (exchanged_back swaps xs) s.one s.other) s.one s.other
    (let lt = first.one in omega (arith, lt, size)) (let lt = first.other in omega (arith, lt, size)) refl)

-- one swap more, at the end and at the front
pub exchanged_more : {X : Type 0} (swaps : List Swap) (s : Swap) (xs : List X)
    → exchanged (swaps ++ s ∷ []) xs ≡ swap (exchanged swaps xs) s.one s.other
exchanged_more [] s xs = refl
exchanged_more (t ∷ swaps) s xs = exchanged_more swaps s (swap xs t.one t.other)
