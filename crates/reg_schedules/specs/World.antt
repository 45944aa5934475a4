-- The workers' world: where the values and the instructions are, and what each step of a worker does.
use Rattle.std.specs.Prelude.{◌≡◌, ℕ, zero, suc, ◌==◌, Bool, true, false, not, List, [], ◌∷◌, ◌++◌, length, map}
use Rattle.std.specs.Prelude.{replicate, slice_get, slice_set, find, filter, Option, Some, None, is_some, Result, Ok}
use Rattle.std.specs.Prelude.{Err, if◌then◌else◌}
use Rattle.std.specs.Option.{option_map, option_map_or}
use Rattle.std.specs.List.{list_all, list_any}
use Rattle.reg_account.specs.Account.{AccountValue}
use Rattle.reg_rules.specs.declared.reply.LogRow.{LogRow}
use Rattle.reg_rules.specs.State.{State, account}
use Rattle.reg_plan.specs.Plans.{PlanValue, outward}
use Rattle.reg_book.specs.Day.{DayValue}
use Rattle.reg_schedules.specs.Pool.{footprint_at, run_at, tail_of, leads_on}
use Rattle.reg_schedules.specs.Docks.{ParcelValue, TaskValue, complete, received}
use Rattle.reg_schedules.specs.declared.event.Event.{Event}
use Rattle.reg_schedules.specs.declared.event.Event.TheVariants.{Pop, Steal, Run, Deliver, Push}
use Rattle.reg_schedules.specs.declared.event.Whereabouts.{Whereabouts}
use Rattle.reg_schedules.specs.declared.event.Whereabouts.TheVariants as at
use Rattle.reg_schedules.specs.declared.event.EventFault.{EventFault}
use Rattle.reg_schedules.specs.declared.event.EventFault.TheVariants as fault

-- what a worker has in hand: a task to run; or the parcels that a run left and that are still to be delivered, and
-- before them the task that the last delivery made complete, if it did
pub data HandValue : Type 0 where
  Holds : TaskValue → HandValue
  Carries : Option TaskValue → List ParcelValue → HandValue

abbrev pub empty : HandValue
empty = Carries None []

-- For each place the parcels that came to its dock, until its task goes out. For each worker its list of tasks and its
-- hand. For each place its row, once it was run. The accounts that no instruction needs any more.
pub record WorldValue : Type 0 where
  pub docks : List (Option (List ParcelValue))
  pub lists : List (List TaskValue)
  pub hands : List HandValue
  pub rows : List (Option LogRow)
  pub closing : List AccountValue

-- ---- docks

-- what a list with one item for each place has for a place, counted from 1; and the list with another item there
abbrev pub at_place : {X : Type 0} → List X → ℕ → Option X
at_place xs zero = None
at_place xs (suc k) = slice_get xs k

abbrev pub with_place : {X : Type 0} → List X → ℕ → X → List X
with_place xs zero y = xs
with_place xs (suc k) y = slice_set xs k y

-- the place to which the arrow at this account leads on from here, if there is one
abbrev pub head_of : PlanValue → ℕ → ℕ → Option ℕ
head_of plan place a = option_map (λ arrow. arrow.to) (find (λ arrow. arrow.account == a) (outward plan.arrows place))

-- the parcels that came to the dock of a place, until its task has gone out
abbrev pub arrived : WorldValue → ℕ → Option (List ParcelValue)
arrived world place = option_map_or (λ d. d) (at_place world.docks place) None

-- ---- the start

-- the opening value of an account
abbrev pub opening_of : DayValue → ℕ → Option ParcelValue
opening_of day a = option_map (λ v. record { value = v; after = 0 }) (account day.book.accounts a)

abbrev pub known_of : {X : Type 0} → List (Option X) → List X
known_of [] = []
known_of (None ∷ more) = known_of more
known_of (Some x ∷ more) = x ∷ known_of more

-- the opening values that a place needs: those of the accounts of its footprint at which no arrow leads there
abbrev pub opened_at : DayValue → PlanValue → ℕ → List ParcelValue
opened_at day plan place =
    known_of (map (opening_of day) (filter (λ a. tail_of plan place a == 0) (footprint_at day place)))

-- the dock of a place: nothing is there if its task is complete from the first
abbrev pub dock_at : DayValue → PlanValue → ℕ → Option (List ParcelValue)
dock_at day plan place =
    if is_some (complete day plan place (opened_at day plan place)) then None else Some (opened_at day plan place)

-- the docks of so many places from this one on, and the tasks that are complete from the first
abbrev pub docks_from : DayValue → PlanValue → ℕ → ℕ → List (Option (List ParcelValue))
docks_from day plan place zero = []
docks_from day plan place (suc more) = dock_at day plan place ∷ docks_from day plan (suc place) more

abbrev pub before_some : {A : Type 0} → Option A → List A → List A
before_some None more = more
before_some (Some x) more = x ∷ more

abbrev pub ready_from : DayValue → PlanValue → ℕ → ℕ → List TaskValue
ready_from day plan place zero = []
ready_from day plan place (suc more) =
    before_some (complete day plan place (opened_at day plan place)) (ready_from day plan (suc place) more)

-- a task goes to the end of the list of a worker
abbrev pub pushed_to : ℕ → TaskValue → List (List TaskValue) → List (List TaskValue)
pushed_to worker task lists = slice_set lists worker (option_map_or (λ l. l) (slice_get lists worker) [] ++ task ∷ [])

-- each task in turn goes to the end of the list of the next worker, from this one on; after the last comes worker 0
abbrev pub dealt : ℕ → List TaskValue → List (List TaskValue) → List (List TaskValue)
dealt worker [] lists = lists
dealt worker (task ∷ tasks) lists =
    dealt (if suc worker == length lists then 0 else suc worker) tasks (pushed_to worker task lists)

abbrev pub at_start : DayValue → PlanValue → ℕ → WorldValue
at_start day plan workers = let n = length day.batch.instructions in record {
  docks = docks_from day plan 1 n;
  lists = dealt 0 (ready_from day plan 1 n) (replicate workers []);
  hands = replicate workers empty;
  rows = replicate n None;
  closing = [];
}

-- ---- the events

-- the first task of a list goes to a worker's empty hand
abbrev pub moved : ℕ → ℕ → WorldValue → HandValue → List TaskValue → Result WorldValue EventFault
moved worker from world (Carries None []) (task ∷ tasks) =
    Ok (record world { lists = slice_set world.lists from tasks; hands = slice_set world.hands worker (Holds task) })
moved worker from world (Carries None []) [] = Err fault.EmptyDeque
moved worker from world (Carries None (p ∷ ps)) tasks = Err fault.HandsFull
moved worker from world (Carries (Some task) ps) tasks = Err fault.HandsFull
moved worker from world (Holds task) tasks = Err fault.HandsFull

-- the parcels that a run leaves: the accounts as they stand after its place
abbrev pub left_by : ℕ → State → List ParcelValue
left_by place results = map (λ v. record { value = v; after = place }) results

-- the arrows from a place lead on from this parcel
abbrev pub goes_on : PlanValue → ParcelValue → Bool
goes_on plan p = leads_on plan p.after p.value.number

-- a task was run: its row is there, the accounts from which no arrow leads on are closing, and the other parcels are in
-- hand
abbrev pub after_run : PlanValue → ℕ → WorldValue → ℕ → State × LogRow → WorldValue
after_run plan worker world place made = record world {
  hands = slice_set world.hands worker (Carries None (filter (goes_on plan) (left_by place made.0)));
  rows = with_place world.rows place (Some made.1);
  closing = world.closing ++ map (λ p. p.value) (filter (λ p. not (goes_on plan p)) (left_by place made.0));
}

abbrev pub run_by : DayValue → PlanValue → ℕ → WorldValue → HandValue → Result WorldValue EventFault
run_by day plan worker world (Holds task) =
    option_map_or (λ made. Ok (after_run plan worker world task.place made))
    (run_at day task.place (map (λ p. p.value) task.parcels)) (Err fault.NothingToRun)
run_by day plan worker world (Carries task ps) = Err fault.NothingToRun

-- a parcel came to a dock: the task of the place goes out if it is complete now
abbrev pub after_delivery : ℕ → WorldValue → List ParcelValue → ℕ → List ParcelValue → Option TaskValue → WorldValue
after_delivery worker world ps place came None = record world {
  docks = with_place world.docks place (Some came);
  hands = slice_set world.hands worker (Carries None ps);
}
after_delivery worker world ps place came (Some task) = record world {
  docks = with_place world.docks place None;
  hands = slice_set world.hands worker (Carries (Some task) ps);
}

abbrev pub delivered_to : DayValue → PlanValue → ℕ → WorldValue → ParcelValue → List ParcelValue → ℕ
    → Option (List ParcelValue) → Result WorldValue EventFault
delivered_to day plan worker world p ps place None = Err fault.NothingToDeliver
delivered_to day plan worker world p ps place (Some came) = let now = received day plan place came p in
    Ok (after_delivery worker world ps place now.0 now.1)

-- the first parcel in hand came to the dock of the place to which its arrow leads. (After every schedule there is such
-- an arrow, and the dock waits: `FindsDock`)
abbrev pub delivered_by : DayValue → PlanValue → ℕ → WorldValue → HandValue → Result WorldValue EventFault
delivered_by day plan worker world (Carries None (p ∷ ps)) =
    option_map_or (λ place. delivered_to day plan worker world p ps place (arrived world place))
    (head_of plan p.after p.value.number) (Err fault.NothingToDeliver)
delivered_by day plan worker world (Carries None []) = Err fault.NothingToDeliver
delivered_by day plan worker world (Carries (Some task) ps) = Err fault.NothingToDeliver
delivered_by day plan worker world (Holds task) = Err fault.NothingToDeliver

-- the task that became complete goes to the end of the worker's list
abbrev pub pushed_by : ℕ → WorldValue → HandValue → Result WorldValue EventFault
pushed_by worker world (Carries (Some task) ps) =
    Ok (record world {
      lists = pushed_to worker task world.lists;
      hands = slice_set world.hands worker (Carries None ps);
    })
pushed_by worker world (Carries None ps) = Err fault.NothingToPush
pushed_by worker world (Holds task) = Err fault.NothingToPush

-- what is done with the hand of a worker
abbrev pub with_hand : WorldValue → ℕ → (HandValue → Result WorldValue EventFault) → Result WorldValue EventFault
with_hand world worker f = option_map_or f (slice_get world.hands worker) (Err fault.NoSuchWorker)

abbrev pub with_list : WorldValue → ℕ → (List TaskValue → Result WorldValue EventFault) → Result WorldValue EventFault
with_list world worker f = option_map_or f (slice_get world.lists worker) (Err fault.NoSuchWorker)

-- the world after an event, or the first reason why it is not possible
unfoldable pub after_event : DayValue → PlanValue → WorldValue → Event → Result WorldValue EventFault
after_event day plan world (Pop worker) =
    with_hand world worker (λ hand. with_list world worker (moved worker worker world hand))
after_event day plan world (Steal worker from) =
    with_hand world worker (λ hand. with_list world from
    (λ tasks. if worker == from then Err fault.OwnDeque else moved worker from world hand tasks))
after_event day plan world (Run worker) = with_hand world worker (run_by day plan worker world)
after_event day plan world (Deliver worker) = with_hand world worker (delivered_by day plan worker world)
after_event day plan world (Push worker) = with_hand world worker (pushed_by worker world)

-- ---- schedules

abbrev pub after_result : (WorldValue → Option WorldValue) → Result WorldValue EventFault → Option WorldValue
after_result next (Ok world) = next world
after_result next (Err why) = None

-- the world after these events, one after another, if each is possible in its turn
abbrev pub after_events : DayValue → PlanValue → WorldValue → List Event → Option WorldValue
after_events day plan world [] = Some world
after_events day plan world (event ∷ events) =
    after_result (λ w. after_events day plan w events) (after_event day plan world event)

abbrev pub world_after : DayValue → PlanValue → ℕ → List Event → Option WorldValue
world_after day plan workers events = after_events day plan (at_start day plan workers) events

-- ---- where the places are

abbrev pub is_task : ℕ → TaskValue → Bool
is_task place task = task.place == place

abbrev pub is_in_hand : ℕ → HandValue → Bool
is_in_hand place (Holds task) = is_task place task
is_in_hand place (Carries None ps) = false
is_in_hand place (Carries (Some task) ps) = is_task place task

abbrev pub is_in_dock : WorldValue → ℕ → Bool
is_in_dock world place = option_map_or is_some (at_place world.docks place) false

abbrev pub is_done : WorldValue → ℕ → Bool
is_done world place = option_map_or is_some (at_place world.rows place) false

abbrev pub is_in_list_of : WorldValue → ℕ → ℕ → Bool
is_in_list_of world place worker = option_map_or (list_any (is_task place)) (slice_get world.lists worker) false

abbrev pub is_in_hand_of : WorldValue → ℕ → ℕ → Bool
is_in_hand_of world place worker = option_map_or (is_in_hand place) (slice_get world.hands worker) false

-- a place is there
abbrev pub IsAt : WorldValue → ℕ → Whereabouts → Type 0
IsAt world place at.Dock = is_in_dock world place ≡ true
IsAt world place (at.List worker) = is_in_list_of world place worker ≡ true
IsAt world place (at.Hand worker) = is_in_hand_of world place worker ≡ true
IsAt world place at.Done = is_done world place ≡ true

-- all places are done
abbrev pub is_over : WorldValue → Bool
is_over world = list_all is_some world.rows
