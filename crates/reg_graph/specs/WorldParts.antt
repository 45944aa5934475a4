-- What the parts of a world hold, as plain data.
use Rattle.std.specs.Prelude.{◌≡◌, ◌≢◌, ◌<◌, ◌==◌, ℕ, List, [], ◌∷◌, ◌++◌, length, map, slice_get, Option, Some}
use Rattle.std.specs.Prelude.{None, Result, Err, IsOk, vec_capacity, if◌then◌else◌}
use Rattle.std.specs.Option.{option_map}
use Rattle.std.specs.declared.vec.Vec.{Vec}
use Rattle.std.specs.declared.collections.vec_deque.VecDeque.{VecDeque}
use Rattle.std.proofs.Common.{Global}
use Rattle.reg_tasks.specs.Parcels.{parcels_of}
use Rattle.reg_tasks.specs.Places.{IsPlaceOf}
use Rattle.reg_tasks.specs.Tasks.{task_of}
use Rattle.reg_tasks.specs.declared.naming.Naming.{Ghosts}
use Rattle.reg_tasks.specs.declared.parcel.Parcel.{Parcel}
use Rattle.reg_tasks.specs.declared.task.Task.{Task}
use Rattle.reg_graph.specs.declared.hand.Hand.{Hand}
use Rattle.reg_graph.specs.declared.hand.Hand.TheVariants as parts
use Rattle.reg_graph.specs.declared.world_parts.Parts.{Parts}
use Rattle.reg_schedules.specs.declared.event.Event.{Event}
use Rattle.reg_schedules.specs.declared.event.Event.TheVariants.{Pop, Steal, Run, Deliver, Push}
use Rattle.reg_schedules.specs.declared.event.EventFault.{EventFault}
use Rattle.reg_schedules.specs.declared.event.EventFault.TheVariants as fault
use Rattle.reg_plan.specs.Plans.{PlanValue}
use Rattle.reg_book.specs.Day.{DayValue}
use Rattle.reg_schedules.specs.Pool.{footprint_at}
use Rattle.reg_schedules.specs.World.{at_place, head_of, arrived, opened_at, dealt, before_some, moved, with_hand}
use Rattle.reg_schedules.specs.World.{with_list, HandValue, Holds, Carries, WorldValue}
use Rattle.reg_schedules.specs.Docks.{ParcelValue, TaskValue, complete}

-- this is why a run was not carried out: it is not possible, or it is, and memory ran out
abbrev pub IsWhy : Result WorldValue EventFault → EventFault → Type 0
IsWhy after why = (why ≡ fault.NoMemory → IsOk after) × (why ≢ fault.NoMemory → after ≡ Err why)

-- this is why an event was not carried out: only a run takes memory, every other event is not possible
abbrev pub IsWhyOf : Event → Result WorldValue EventFault → EventFault → Type 0
IsWhyOf (Run worker) after why = IsWhy after why
IsWhyOf (Pop worker) after why = after ≡ Err why
IsWhyOf (Steal worker from) after why = after ≡ Err why
IsWhyOf (Deliver worker) after why = after ≡ Err why
IsWhyOf (Push worker) after why = after ≡ Err why

-- the world after a worker took the first task of a list in hand, or why that is not possible
abbrev pub after_taking : WorldValue → ℕ → ℕ → Result WorldValue EventFault
after_taking world worker from = with_hand world worker (λ hand. with_list world from (moved worker from world hand))

-- the same, if the list must be another worker's
abbrev pub after_stealing : WorldValue → ℕ → ℕ → Result WorldValue EventFault
after_stealing world worker from =
    with_hand world worker (λ hand. with_list world from
    (λ tasks. if worker == from then Err fault.OwnDeque else moved worker from world hand tasks))

-- if a worker holds a task, it is that of a place of the batch
abbrev pub HeldIsOfBatch : DayValue → WorldValue → ℕ → Type 0
HeldIsOfBatch day world worker =
    (task : TaskValue) → slice_get world.hands worker ≡ Some (Holds task) → IsPlaceOf day.batch task.place

-- if a task became complete in a worker's hand, the worker's list has fewer tasks than the batch has places
abbrev pub ListHasRoom : WorldValue → ℕ → Type 0
ListHasRoom world worker = (task : TaskValue) (parcels : List ParcelValue) (tasks : List TaskValue)
    → slice_get world.hands worker ≡ Some (Carries (Some task) parcels) → slice_get world.lists worker ≡ Some tasks
    → length tasks < length world.rows

-- the place to which an arrow leads on from the first of these parcels
abbrev pub first_head : PlanValue → List ParcelValue → Option ℕ
first_head plan [] = None
first_head plan (p ∷ ps) = head_of plan p.after p.value.number

-- the first of these parcels, if there is one, comes from a place of the batch
abbrev pub FirstIsSent : DayValue → List ParcelValue → Type 0
FirstIsSent day parcels = (p : ParcelValue) (ps : List ParcelValue) → parcels ≡ p ∷ ps → IsPlaceOf day.batch p.after

-- if the first of these parcels goes to a dock that waits, fewer parcels came there than the instruction of the dock
-- touches accounts
abbrev pub FirstHasRoom : DayValue → PlanValue → WorldValue → List ParcelValue → Type 0
FirstHasRoom day plan world parcels = (place : ℕ) (came : List ParcelValue)
    → first_head plan parcels ≡ Some place → arrived world place ≡ Some came
    → length came < length (footprint_at day place)

-- both are so of the parcels that a worker carries and may deliver
abbrev pub NextIsSent : DayValue → WorldValue → ℕ → Type 0
NextIsSent day world worker =
    (parcels : List ParcelValue) → slice_get world.hands worker ≡ Some (Carries None parcels) → FirstIsSent day parcels

abbrev pub NextHasRoom : DayValue → PlanValue → WorldValue → ℕ → Type 0
NextHasRoom day plan world worker = (parcels : List ParcelValue)
    → slice_get world.hands worker ≡ Some (Carries None parcels) → FirstHasRoom day plan world parcels

-- the task of a place, if it is complete from the first
abbrev pub task_at_start : DayValue → PlanValue → ℕ → Option TaskValue
task_at_start day plan place = complete day plan place (opened_at day plan place)

-- this task, if there is one, was dealt to a worker; here are the lists before and after, and the worker who is next
abbrev pub IsDealt : Option TaskValue → ℕ → List (List TaskValue) → ℕ → List (List TaskValue) → Type 0
IsDealt task worker before next after =
    (more : List TaskValue) → dealt next more after ≡ dealt worker (before_some task more) before

module _ {N : Type 0} {b : Ghosts N} where
  -- the hand
  abbrev pub hand_of : Hand N b → HandValue
  hand_of (parts.Holds t) = Holds (task_of t)
  hand_of (parts.Carries ready parcels) = Carries (option_map task_of ready) (parcels_of parcels.items)

  -- the task of a place, if these parcels and one more are all that it awaits
  abbrev pub task_with : DayValue → PlanValue → ℕ → List (Parcel N b) → Parcel N b → Option TaskValue
  task_with day plan place came parcel = complete day plan place (parcels_of (came ++ parcel ∷ []))

  -- the docks
  abbrev pub docks_of : List (Option (Vec (Parcel N b) Global)) → List (Option (List ParcelValue))
  docks_of docks = map (option_map (λ came. parcels_of came.items)) docks

  -- each dock in which parcels wait has room for the accounts that its instruction touches, and for no more
  abbrev pub DocksHaveRoom : DayValue → List (Option (Vec (Parcel N b) Global)) → Type 0
  DocksHaveRoom day docks = (place : ℕ) (came : Vec (Parcel N b) Global) → at_place docks place ≡ Some (Some came)
      → vec_capacity came ≡ length (footprint_at day place)

  -- the lists of tasks
  abbrev pub task_lists : List (VecDeque (Task N b) Global) → List (List TaskValue)
  task_lists lists = map (λ tasks. map task_of tasks.items) lists

  -- the world
  abbrev pub world_of : Parts N b → WorldValue
  world_of p = record {
    docks = docks_of p.docks.items;
    lists = task_lists p.lists.items;
    hands = map hand_of p.hands.items;
    rows = p.rows.items;
    closing = p.closing.items;
  }
