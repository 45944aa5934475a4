-- Elements of a list swapped, one pair after another, and swapped back.
use Rattle.std.specs.Prelude.{ℕ, ◌<◌, List, [], ◌∷◌}
use Rattle.std.specs.List.{swap}
use Rattle.reg_advice.specs.declared.dealing.Swap.{Swap}

-- a swap of two of the first n indexes
pub record IsSwapWithin (n : ℕ) (s : Swap) : Type 0 where
  pub one : s.one < n
  pub other : s.other < n

-- the list after these swaps, in their order
abbrev pub exchanged : {X : Type 0} → List Swap → List X → List X
exchanged [] xs = xs
exchanged (s ∷ swaps) xs = exchanged swaps (swap xs s.one s.other)

-- the list after these swaps, from the last to the first
abbrev pub exchanged_back : {X : Type 0} → List Swap → List X → List X
exchanged_back [] xs = xs
exchanged_back (s ∷ swaps) xs = swap (exchanged_back swaps xs) s.one s.other
