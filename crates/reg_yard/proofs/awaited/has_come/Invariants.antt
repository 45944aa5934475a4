use Rattle.std.proofs.Common.{◌≡◌, drop}
use Rattle.std.specs.Prelude.{is_some}
use Rattle.reg_schedules.specs.Docks.{of_name}
use Rattle.reg_tasks.specs.Parcels.{parcels_of}
use Rattle.reg_yard.proofs.awaited.has_come.Given as goal

-- what is left answers as all do
abbrev pub invariant-loop-other : goal.invariant-loop-other
invariant-loop-other g l =
    is_some (of_name (parcels_of (drop l.other-index l.came)) (l.parcel.value.number, l.parcel.after))
    ≡ is_some (of_name (parcels_of l.came) (l.parcel.value.number, l.parcel.after))
