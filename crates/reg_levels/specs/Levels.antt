-- A day's instructions level by level: which run at the same time, and what stands in the slots meanwhile.
use Rattle.std.specs.Prelude.{◌≡◌, ◌≢◌, ◌⊎◌, ℕ, ◌+◌, ◌-◌, ◌<◌, ◌≤◌, ◌==◌, Bool, true, List, length, take, drop, filter}
use Rattle.std.specs.Prelude.{map, slice_index, Option, Some, None, if◌then◌else◌}
use Rattle.std.specs.List.{list_any}
use Rattle.std.specs.List.Sorted.{IsNonDecreasingBy}
use Rattle.reg_base.specs.Rising.{count_up}
use Rattle.reg_base.specs.Touches.{is_touched}
use Rattle.reg_plan.specs.Arrows.{touches_place}
use Rattle.reg_plan.specs.Plans.{PlanValue, level_at}
use Rattle.reg_book.specs.Day.{DayValue}
use Rattle.reg_schedules.specs.Pool.{directory}
use Rattle.reg_tasks.specs.declared.naming.Naming.{Ghosts}
use Rattle.reg_tasks.specs.declared.task.Task.{Task}
use Rattle.reg_tasks.specs.declared.outcome.TaskOutcome.{TaskOutcome}
use Rattle.reg_tasks.specs.Slots.{last_of}

-- whether the instruction at one of these places touches the account
abbrev pub touched_by : DayValue → List ℕ → ℕ → Bool
touched_by day places a = list_any (λ place. touches_place (directory day) day.batch.instructions a place) places

-- while the instructions at some places run, after those at others are done: the slots of the accounts that they touch
-- are empty, and in each other one stands what the last of those that are done left, or the opening value
abbrev pub StandsBetween : DayValue → List ℕ → List ℕ → (ℕ → Option (ℕ × ℕ)) → Type 0
StandsBetween day done running standing = (a : ℕ) → is_touched (directory day) day.batch.instructions a ≡ true
    → standing a ≡ (if touched_by day running a then None else Some (a, last_of day a 0 done))

-- if a day is named, that stands in them
abbrev pub AreBetween : Option DayValue → DayValue → List ℕ → List ℕ → (ℕ → Option (ℕ × ℕ)) → Type 0
AreBetween name day done running standing = (d : DayValue) → name ≡ Some d → StandsBetween day done running standing

-- the places of an order from one index up to another one, counted from 0
abbrev pub places_between : List ℕ → ℕ → ℕ → List ℕ
places_between order from to = take (to - from) (drop from order)

-- those of some places that have the level of this one
abbrev pub with_level_of : List ℕ → ℕ → List ℕ → List ℕ
with_level_of levels place places = filter (λ other. level_at levels other == level_at levels place) places

-- the places of the plan stand by rising level, and those of one level by rising place
pub record IsByLevel (plan : PlanValue) (order : List ℕ) : Type 0 where
  pub rising : IsNonDecreasingBy (λ place. level_at plan.levels place) order
  pub within : (place : ℕ)
      → with_level_of plan.levels place order ≡ with_level_of plan.levels place (count_up 1 (length plan.levels))

-- these places have the same level
abbrev pub IsOneLevel : PlanValue → List ℕ → ℕ → ℕ → Type 0
IsOneLevel plan order from to = (k : ℕ) → from ≤ k → k < to
    → level_at plan.levels (slice_index order k) ≡ level_at plan.levels (slice_index order from)

-- the instruction after these, if there is one, has another level
abbrev pub EndsLevel : PlanValue → List ℕ → ℕ → ℕ → Type 0
EndsLevel plan order from to =
    to < length order → level_at plan.levels (slice_index order to) ≢ level_at plan.levels (slice_index order from)

-- these are so many, or they are the rest of a level
abbrev pub AreRestOrMost : PlanValue → List ℕ → ℕ → ℕ → ℕ → Type 0
AreRestOrMost plan order most from to = EndsLevel plan order from to ⊎ (to ≡ from + most)

module _ {N : Type 0} {b : Ghosts N} where
  -- the places of tasks
  abbrev pub places_of : List (Task N b) → List ℕ
  places_of tasks = map (λ t. t.place) tasks

  -- the places of outcomes
  abbrev pub places_run : List (TaskOutcome N b) → List ℕ
  places_run outcomes = map (λ o. o.place) outcomes
