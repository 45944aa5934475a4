-- A short list in an array: its elements first, and then the same value up to the end.
use Rattle.std.proofs.Common.{◌≡◌, ℕ, ◌-◌, ◌≤◌, List, ◌++◌, length, take, drop, sym, ap, ◌∙◌, arith}
use Rattle.std.specs.Prelude.{replicate}
use Rattle.std.proofs.lemmas.List.{take-append-drop, length-take-le}

-- the array has this length, and what follows the first `count` is unused
pub record IsPadded {X : Type 0} (most : ℕ) (unused : X) (array : List X) (count : ℕ) : Type 0 where
  pub size : length array ≡ most
  pub count_fits : count ≤ most
  pub padding : drop count array ≡ replicate (most - count) unused

-- the array of a list
abbrev pub padded : {X : Type 0} → ℕ → X → List X → List X
padded most unused xs = xs ++ replicate (most - length xs) unused

pub count_again : {X : Type 0} (most : ℕ) (unused : X) (array : List X) (count : ℕ) → IsPadded most unused array count
    → length (take count array) ≡ count
count_again most unused array count p = let fits = p.count_fits in let size = p.size in
    length-take-le count array (omega arith)

pub array_again : {X : Type 0} (most : ℕ) (unused : X) (array : List X) (count : ℕ) → IsPadded most unused array count
    → padded most unused (take count array) ≡ array
array_again most unused array count p =
    ap (λ n. take count array ++ replicate (most - n) unused) (count_again most unused array count p)
    ∙ ap (λ ys. take count array ++ ys) (sym p.padding)
    ∙ take-append-drop count array
