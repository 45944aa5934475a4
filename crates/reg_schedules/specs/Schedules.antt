-- What is true of every schedule: of the events of workers, one after another, each possible in its turn.
use Rattle.std.specs.Prelude.{◌≡◌, ℕ, zero, suc, ◌+◌, ◌*◌, ◌≤◌, Bool, true, false, not, ◌&&◌, nat_eq, List, [], ◌∷◌}
use Rattle.std.specs.Prelude.{◌++◌, length, map, slice_get, Option, Some, None, is_some, is_ok, IsOk}
use Rattle.std.specs.Option.{option_map_or}
use Rattle.std.specs.List.{AllByRecursion, IsDistinct}
use Rattle.reg_base.specs.Footprint.{is_among}
use Rattle.reg_base.specs.Touches.{is_touched}
use Rattle.reg_rules.specs.declared.reply.LogRow.{LogRow}
use Rattle.reg_rules.specs.State.{State, account, numbers}
use Rattle.reg_facts.specs.Counting.{one_if, total}
use Rattle.reg_schedules.specs.Pool.{directory, tail_of, Progress, meaning_of}
use Rattle.reg_plan.specs.Arrows.{touches_place}
use Rattle.reg_plan.specs.Plans.{PlanValue}
use Rattle.reg_plan.specs.Orders.{IsLegalOrder}
use Rattle.reg_book.specs.Day.{DayValue, value_at, row_at, log_of}
use Rattle.reg_schedules.specs.Laws.{IsPlanOf}
use Rattle.reg_schedules.specs.declared.event.Event.{Event}
use Rattle.reg_schedules.specs.declared.event.Event.TheVariants.{Run, Deliver, Push}
use Rattle.reg_schedules.specs.declared.event.TheConstants.{MOST_WORKERS}
use Rattle.reg_schedules.specs.Docks.{ParcelValue, is_name, name_of, is_not_awaited}
use Rattle.reg_schedules.specs.World.{HandValue, Holds, Carries, WorldValue, at_place, empty, head_of, arrived}
use Rattle.reg_schedules.specs.World.{after_event, world_after, is_task, is_in_hand, is_in_dock, is_done, is_over}

-- the parcels of a dock, and those of a hand
abbrev pub in_dock : Option (List ParcelValue) → List ParcelValue
in_dock None = []
in_dock (Some parcels) = parcels

abbrev pub in_hand : HandValue → List ParcelValue
in_hand (Holds task) = task.parcels
in_hand (Carries None parcels) = parcels
in_hand (Carries (Some task) parcels) = task.parcels ++ parcels

-- a parcel has the account's value after the first instructions, up to the one of its name
abbrev pub IsRight : DayValue → ParcelValue → Type 0
IsRight day p = value_at day p.value.number p.after ≡ Some p.value

abbrev pub AreRight : DayValue → List ParcelValue → Type 0
AreRight day parcels = AllByRecursion (IsRight day) parcels

-- each value and each row is the one that the instructions give one after another; the accounts that no instruction
-- needs any more are as they are at the end
pub record HasRightValues (day : DayValue) (world : WorldValue) : Type 0 where
  pub docks : AllByRecursion (λ d. AreRight day (in_dock d)) world.docks
  pub lists : AllByRecursion (AllByRecursion (λ t. AreRight day t.parcels)) world.lists
  pub hands : AllByRecursion (λ h. AreRight day (in_hand h)) world.hands
  pub rows : (place : ℕ) → is_done world place ≡ true → at_place world.rows place ≡ Some (row_at day place)
  pub closing : AllByRecursion (λ v. value_at day v.number (length day.batch.instructions) ≡ Some v) world.closing

-- these are the touched accounts as the last instruction left them, in any order
pub record AreLastValues (day : DayValue) (accounts : State) : Type 0 where
  pub once : IsDistinct nat_eq (numbers accounts)
  pub touched : (a : ℕ) → is_among (numbers accounts) a ≡ is_touched (directory day) day.batch.instructions a
  pub values : AllByRecursion (λ v. value_at day v.number (length day.batch.instructions) ≡ Some v) accounts

-- all rows are there, in the order of the batch, and the accounts are the touched ones as the last instruction left
-- them, in any order
pub record IsWorldSettled (day : DayValue) (world : WorldValue) : Type 0 where
  pub rows : world.rows ≡ map Some (log_of day)
  pub accounts : AreLastValues day world.closing

-- law: after every schedule each value is the one of its name and each row the one of its instruction; a world that is
-- over has the settled day
pub record ScheduleDecides (day : DayValue) (world : WorldValue) : Type 0 where
  pub right : HasRightValues day world
  pub settled : is_over world ≡ true → IsWorldSettled day world

abbrev pub EverySchedule : Type 0
EverySchedule = (day : DayValue) (plan : PlanValue) (workers : ℕ) (events : List Event) (world : WorldValue)
    → IsPlanOf day plan → 1 ≤ workers → world_after day plan workers events ≡ Some world → ScheduleDecides day world

-- how often a name stands among these parcels; and among those of the docks, the lists and the hands
abbrev pub times_among : ℕ × ℕ → List ParcelValue → ℕ
times_among name parcels = total (λ p. one_if (is_name (name_of p) name)) parcels

abbrev pub times_named : WorldValue → ℕ × ℕ → ℕ
times_named world name =
    total (λ d. times_among name (in_dock d)) world.docks
    + (total (total (λ t. times_among name t.parcels)) world.lists
    + total (λ h. times_among name (in_hand h)) world.hands)

-- the row of a place, if it is done
abbrev pub world_row_in : WorldValue → ℕ → Option LogRow
world_row_in world place = option_map_or (λ row. row) (at_place world.rows place) None

-- so is each parcel in a dock, a list or a hand
pub record IsEachParcel (is_so : ParcelValue → Type 0) (world : WorldValue) : Type 0 where
  pub docks : AllByRecursion (λ d. AllByRecursion is_so (in_dock d)) world.docks
  pub lists : AllByRecursion (AllByRecursion (λ t. AllByRecursion is_so t.parcels)) world.lists
  pub hands : AllByRecursion (λ h. AllByRecursion is_so (in_hand h)) world.hands

-- this order of the places that are done has made what a world has: its rows, and the accounts that no instruction
-- needs any more
pub record IsMadeBy (day : DayValue) (plan : PlanValue) (order : List ℕ) (progress : Progress)
    (world : WorldValue) : Type 0 where
  pub meaning : meaning_of day plan order ≡ Some progress
  pub done : (place : ℕ) → is_among order place ≡ is_done world place
  pub rows : (place : ℕ) → progress.rows place ≡ world_row_in world place
  pub closing : (a : ℕ) → progress.closing a ≡ account world.closing a

-- some order has made what a world has. Each parcel is in its pool under the parcel's name, and each value in its pool
-- that a place needs lies in one dock, list or hand. It is the beginning of a legal order, or, if all is done, a legal
-- order
pub record CarriesOutAnOrder (day : DayValue) (plan : PlanValue) (world : WorldValue) : Type 0 where
  pub order : List ℕ
  pub progress : Progress
  pub made : IsMadeBy day plan order progress world
  pub pool : IsEachParcel (λ p. progress.pool p.value.number p.after ≡ Some p.value) world
  pub lies : (place a : ℕ) → touches_place (directory day) day.batch.instructions a place ≡ true
      → times_named world (a, tail_of plan place a) ≡ one_if (is_some (progress.pool a (tail_of plan place a)))
  pub legal : (rest : List ℕ) × IsLegalOrder plan (order ++ rest)
  pub complete : is_over world ≡ true → IsLegalOrder plan order

-- law: so it is after every schedule
abbrev pub EachScheduleIsAnOrder : Type 0
EachScheduleIsAnOrder = (day : DayValue) (plan : PlanValue) (workers : ℕ) (events : List Event) (world : WorldValue)
    → IsPlanOf day plan → 1 ≤ workers → world_after day plan workers events ≡ Some world
    → CarriesOutAnOrder day plan world

-- how often a place stands among the docks, the tasks of the lists and of the hands, and the rows
abbrev pub times_found : WorldValue → ℕ → ℕ
times_found world place =
    one_if (is_in_dock world place) + (total (total (λ t. one_if (is_task place t))) world.lists
    + (total (λ h. one_if (is_in_hand place h)) world.hands + one_if (is_done world place)))

abbrev pub HasNoTask : WorldValue → Type 0
HasNoTask world = AllByRecursion (λ l. l ≡ []) world.lists × AllByRecursion (λ h. h ≡ empty) world.hands

-- a hand has a task to run
abbrev pub is_to_run : HandValue → Bool
is_to_run (Holds task) = true
is_to_run (Carries task parcels) = false

-- it has a parcel to deliver, and no task that became complete
abbrev pub is_to_deliver : HandValue → Bool
is_to_deliver (Holds task) = false
is_to_deliver (Carries None []) = false
is_to_deliver (Carries None (p ∷ ps)) = true
is_to_deliver (Carries (Some task) parcels) = false

-- it has a task that became complete
abbrev pub is_to_push : HandValue → Bool
is_to_push (Holds task) = false
is_to_push (Carries None parcels) = false
is_to_push (Carries (Some task) parcels) = true

-- there is this worker, and its hand is so
abbrev pub has_hand : WorldValue → ℕ → (HandValue → Bool) → Bool
has_hand world worker is_so = option_map_or is_so (slice_get world.hands worker) false

-- an arrow leads on from the parcel, the dock of its head waits, and the parcel is still awaited there
pub record FindsDock (day : DayValue) (plan : PlanValue) (world : WorldValue) (p : ParcelValue) : Type 0 where
  pub place : ℕ
  pub came : List ParcelValue
  pub head : head_of plan p.after p.value.number ≡ Some place
  pub waits : arrived world place ≡ Some came
  pub is_awaited : is_not_awaited day plan place came p ≡ false

-- a worker can run exactly if a task to run is in its hand, deliver exactly if a parcel is and no task that became
-- complete, and push exactly if such a task is; and the parcel that it would deliver finds its dock
pub record HandsGoOn (day : DayValue) (plan : PlanValue) (world : WorldValue) : Type 0 where
  pub run : (worker : ℕ) → is_ok (after_event day plan world (Run worker)) ≡ has_hand world worker is_to_run
  pub deliver : (worker : ℕ) → is_ok (after_event day plan world (Deliver worker)) ≡ has_hand world worker is_to_deliver
  pub push : (worker : ℕ) → is_ok (after_event day plan world (Push worker)) ≡ has_hand world worker is_to_push
  pub finds_dock : (worker : ℕ) (p : ParcelValue) (ps : List ParcelValue)
      → slice_get world.hands worker ≡ Some (Carries None (p ∷ ps)) → FindsDock day plan world p

-- a place is done; or it is 0, after which the opening values stand
abbrev pub has_come : WorldValue → ℕ → Bool
has_come world zero = true
has_come world (suc k) = is_done world (suc k)

-- law: after every schedule each place is found exactly once; if no list and no hand has anything, all is done; if not
-- all is done, some event is possible; no schedule has more events than three for each place and one for each arrow;
-- whatever a worker has in hand, it can go on with it; no account is closing twice; and the value that a place needs of
-- an account lies in one dock, list or hand from when it is made until the place is done
pub record IsNothingLost (day : DayValue) (plan : PlanValue) (events : List Event) (world : WorldValue) : Type 0 where
  pub once : (place : ℕ) → 1 ≤ place → place ≤ length day.batch.instructions → times_found world place ≡ 1
  pub over : HasNoTask world → is_over world ≡ true
  pub possible : is_over world ≡ false → (event : Event) × IsOk (after_event day plan world event)
  pub bounded : length events ≤ 3 * length day.batch.instructions + length plan.arrows
  pub hands : HandsGoOn day plan world
  pub closing_once : IsDistinct nat_eq (numbers world.closing)
  pub value_once : (place a : ℕ) → touches_place (directory day) day.batch.instructions a place ≡ true
      → times_named world (a, tail_of plan place a)
      ≡ one_if (has_come world (tail_of plan place a) && not (is_done world place))

abbrev pub NothingLost : Type 0
NothingLost = (day : DayValue) (plan : PlanValue) (workers : ℕ) (events : List Event) (world : WorldValue)
    → IsPlanOf day plan → 1 ≤ workers → world_after day plan workers events ≡ Some world
    → IsNothingLost day plan events world

-- some schedule of one to eight workers leads to this world
pub record IsReached (day : DayValue) (plan : PlanValue) (world : WorldValue) : Type 0 where
  pub workers : ℕ
  pub some : 1 ≤ workers
  pub few : workers ≤ MOST_WORKERS
  pub events : List Event
  pub after : world_after day plan workers events ≡ Some world
