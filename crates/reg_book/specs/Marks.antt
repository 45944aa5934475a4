-- How the touched accounts of a batch are found: by marks beside the accounts. Private functions alone are stated in
-- these.
use Rattle.std.specs.Prelude.{ℕ, ◌+◌, Bool, true, List, [], ◌∷◌, slice_set, if◌then◌else◌}
use Rattle.reg_rules.specs.State.{State}

-- the marks, with those at these indexes set
abbrev pub marked_at : List Bool → List ℕ → List Bool
marked_at ms [] = ms
marked_at ms (p ∷ ps) = marked_at (slice_set ms p true) ps

-- the marks, with those at the indexes of all these lists set
abbrev pub all_marked_at : List Bool → List (List ℕ) → List Bool
all_marked_at ms [] = ms
all_marked_at ms (ps ∷ more) = all_marked_at (marked_at ms ps) more

-- the accounts that are marked
abbrev pub picked : List Bool → State → State
picked [] s = []
picked (m ∷ ms) [] = []
picked (m ∷ ms) (v ∷ vs) = if m then v ∷ picked ms vs else picked ms vs

-- for each mark, how many are set before it, where so many were set before the first
abbrev pub ranks_from : ℕ → List Bool → List ℕ
ranks_from count [] = []
ranks_from count (m ∷ ms) = count ∷ ranks_from (if m then count + 1 else count) ms
