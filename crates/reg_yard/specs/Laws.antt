-- What is true of every dock.
use Rattle.std.specs.Prelude.{◌≡◌, ℕ, true, length, Option, is_some}
use Rattle.reg_book.specs.Day.{DayValue}
use Rattle.reg_schedules.specs.Pool.{footprint_at}
use Rattle.reg_schedules.specs.Docks.{ParcelValue, TaskValue}
use Rattle.reg_yard.specs.Held.{IsTaken}

-- law: if the place needs one parcel alone, its dock gave out the task when it took that
abbrev pub ASingleParcelGivesTheTask : Type 0
ASingleParcelGivesTheTask = (name : Option DayValue) (goes : Option ℕ) (p : ParcelValue) (task : Option TaskValue)
    (taken : IsTaken name goes p task) → length (footprint_at taken.day taken.place) ≡ 1 → is_some task ≡ true
