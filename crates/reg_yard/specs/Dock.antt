-- What is in a dock, and what becomes of a parcel that is delivered to it.
use Rattle.std.specs.Prelude.{Bool, List, Option}
use Rattle.reg_schedules.specs.Docks.{ParcelValue, TaskValue}
use Rattle.reg_tasks.specs.Contexts.{the_day}
use Rattle.reg_tasks.specs.declared.naming.Naming.{Ghosts}
use Rattle.reg_tasks.specs.declared.parcel.Parcel.{Parcel}
use Rattle.reg_yard.specs.Held.{is_refused, delivered, waiting_of}
use Rattle.reg_yard.specs.Parcels.{parcel_of}
use Rattle.reg_yard.specs.declared.dock.Dock.{Dock}

module _ {N : Type 0} {b : Ghosts N} where
  -- the parcels that came, in their order, until the task goes out
  abbrev pub came_to : Dock N b → Option (List ParcelValue)
  came_to dock = waiting_of dock.waiting

  -- the parcel is not awaited here, or has come already
  abbrev pub refuses : Dock N b → Parcel N b → Bool
  refuses dock parcel = is_refused (the_day dock.context.now) dock.context.now.plan dock.place (came_to dock)
      (parcel_of parcel)

  -- what stays here after the parcel has come, and the task that goes out
  abbrev pub after_parcel : Dock N b → Parcel N b → Option (List ParcelValue) × Option TaskValue
  after_parcel dock parcel =
      delivered (the_day dock.context.now) dock.context.now.plan dock.place (came_to dock) (parcel_of parcel)
