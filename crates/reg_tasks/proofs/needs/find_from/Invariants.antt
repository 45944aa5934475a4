use Rattle.std.proofs.Common.{◌≡◌, ◌<◌, ◌≤◌, ℕ, false}
use Rattle.std.specs.Prelude.{slice_index_or}
use Rattle.reg_schedules.specs.Docks.{is_name}
use Rattle.reg_tasks.specs.Parcels.{names_of}
use Rattle.reg_tasks.proofs.needs.find_from.Given as goal

-- none of the parcels so far has the name
abbrev pub invariant-loop-index : goal.invariant-loop-index
invariant-loop-index g l = (m : ℕ) → l.from ≤ m → m < l.index
    → is_name (slice_index_or (names_of l.parcels) m (l.account, l.after)) (l.account, l.after) ≡ false
