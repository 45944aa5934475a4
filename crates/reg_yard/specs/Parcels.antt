-- A parcel as plain data, and the place whose dock it is for.
use Rattle.std.specs.Prelude.{ℕ, ◌==◌, Option, if◌then◌else◌}
use Rattle.reg_plan.specs.Plans.{PlanValue}
use Rattle.reg_schedules.specs.Docks.{ParcelValue}
use Rattle.reg_schedules.specs.World.{head_of}
use Rattle.reg_tasks.specs.Openings.{first_at}
use Rattle.reg_tasks.specs.declared.naming.Naming.{Ghosts}
use Rattle.reg_tasks.specs.declared.parcel.Parcel.{Parcel}

-- the place that awaits a parcel: of an opening value the first one that touches its account, of any other the head of
-- the arrow that leads on at its account
abbrev pub goes_to : PlanValue → ParcelValue → Option ℕ
goes_to plan p = if p.after == 0 then first_at plan p.value.number else head_of plan p.after p.value.number

module _ {N : Type 0} {b : Ghosts N} where
  -- the value, and the place after which it stands
  abbrev pub parcel_of : Parcel N b → ParcelValue
  parcel_of p = record { value = p.value; after = p.after }
