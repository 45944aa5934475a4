-- Lists that are kept one after another in one list, with the index behind each.
use Rattle.std.specs.Prelude.{◌≡◌, ℕ, ◌+◌, ◌-◌, ◌≤◌, List, [], ◌∷◌, length, take, drop, slice_index_or}
use Rattle.std.specs.List.{concat}
use Rattle.reg_base.specs.declared.limits.TheConstants.{MOST_TOUCHED}

-- the index behind each list, if the first begins here
abbrev pub ends_from : ℕ → List (List ℕ) → List ℕ
ends_from start [] = []
ends_from start (xs ∷ lists) = (start + length xs) ∷ ends_from (start + length xs) lists

-- the parts of a list that end before these indexes, if the first begins here
abbrev pub parts_from : List ℕ → ℕ → List ℕ → List (List ℕ)
parts_from flat start [] = []
parts_from flat start (end ∷ ends) = take (end - start) (drop start flat) ∷ parts_from flat end ends

-- indexes, each so much larger
abbrev pub moved_by : ℕ → List ℕ → List ℕ
moved_by later [] = []
moved_by later (place ∷ places) = (later + place) ∷ moved_by later places

-- these are the lists one after another, and the index behind each
pub record AreFlat (lists : List (List ℕ)) (flat : List ℕ) (ends : List ℕ) : Type 0 where
  pub flat_is : flat ≡ concat lists
  pub ends_are : ends ≡ ends_from 0 lists

-- each of these lists has at most as many accounts as an instruction touches
abbrev pub AreFew : List (List ℕ) → Type 0
AreFew lists = (index : ℕ) → length (slice_index_or lists index []) ≤ MOST_TOUCHED
