-- The tasks that await no parcel.
use Rattle.std.specs.Prelude.{ℕ, ◌==◌, Bool, List, [], length, map, filter, Option, Some, None, if◌then◌else◌}
use Rattle.reg_base.specs.Rising.{count_up}
use Rattle.reg_book.specs.Day.{DayValue}
use Rattle.reg_schedules.specs.Pool.{footprint_at}
use Rattle.reg_schedules.specs.Docks.{TaskValue}

-- the instruction at this place touches no account
abbrev pub touches_none : DayValue → ℕ → Bool
touches_none day place = length (footprint_at day place) == 0

-- its task
abbrev pub task_without : ℕ → TaskValue
task_without place = record { place = place; parcels = [] }

abbrev pub task_at_once : DayValue → ℕ → Option TaskValue
task_at_once day place = if touches_none day place then Some (task_without place) else None

-- those of so many places from this one on, by rising place
abbrev pub tasks_from : DayValue → ℕ → ℕ → List TaskValue
tasks_from day first many = map task_without (filter (touches_none day) (count_up first many))

-- those of the day
abbrev pub tasks_at_once : DayValue → List TaskValue
tasks_at_once day = tasks_from day 1 (length day.batch.instructions)
