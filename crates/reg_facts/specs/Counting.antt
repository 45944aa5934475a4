-- Words for counting in lists.
use Rattle.std.specs.Prelude.{ℕ, ◌+◌, ◌==◌, ◌&&◌, nat_le, Bool, true, false, List, [], ◌∷◌}

-- 1 if it is so, else 0
abbrev pub one_if : Bool → ℕ
one_if true = 1
one_if false = 0

-- the sum of a number over a list
abbrev pub total : {X : Type 0} → (X → ℕ) → List X → ℕ
total f [] = 0
total f (x ∷ xs) = f x + total f xs

-- how often a number stands in a list
abbrev pub times : ℕ → List ℕ → ℕ
times p numbers = total (λ x. one_if (x == p)) numbers

-- 1 for each of the numbers 1 to n, and 0 for all others
abbrev pub once : ℕ → ℕ → ℕ
once n p = one_if (nat_le 1 p && nat_le p n)
