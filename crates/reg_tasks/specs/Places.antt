-- The places of a batch.
use Rattle.std.specs.Prelude.{ℕ, ◌≤◌, length}
use Rattle.reg_base.specs.Batch.{BatchValue}

-- a place of the batch: from 1 to the number of its instructions
abbrev pub IsPlaceOf : BatchValue → ℕ → Type 0
IsPlaceOf batch place = (1 ≤ place) × (place ≤ length batch.instructions)
