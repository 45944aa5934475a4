-- A task, as plain data, and the parcels that it is made of.
use Rattle.std.specs.Prelude.{◌≡◌, ℕ, Bool, true, false, List, Some, None, Result, MatchResult, IsPermutation, Vec}
use Rattle.std.specs.Global.{Global}
use Rattle.reg_plan.specs.Plans.{PlanValue}
use Rattle.reg_book.specs.Day.{DayValue}
use Rattle.reg_schedules.specs.Docks.{TaskValue, awaited, complete}
use Rattle.reg_tasks.specs.declared.naming.Naming.{Ghosts}
use Rattle.reg_tasks.specs.declared.parcel.Parcel.{Parcel}
use Rattle.reg_tasks.specs.declared.task.Task.{Task}
use Rattle.reg_tasks.specs.Names.{has_names}
use Rattle.reg_tasks.specs.Parcels.{names_of, parcels_of}

module _ {N : Type 0} {b : Ghosts N} where
  -- its place and its parcels
  abbrev pub task_of : Task N b → TaskValue
  task_of t = record { place = t.place; parcels = parcels_of t.parcels.items }

  -- whether the parcels are, in any order, all that this place awaits
  abbrev pub are_all : DayValue → PlanValue → ℕ → List (Parcel N b) → Bool
  are_all day plan place parcels = has_names (names_of parcels) (awaited day plan place)

  -- it is the task of this place, with the parcels that came
  pub record IsTaskOf (day : DayValue) (plan : PlanValue) (here : ℕ) (came : List (Parcel N b)) (task : Task N b)
      : Type 0 where
    pub place : task.place ≡ here
    pub parcels : IsPermutation came task.parcels.items
    pub complete : complete day plan here (parcels_of came) ≡ Some (task_of task)

  -- the parcels that came are all, and this is their task
  pub record IsAssembled (day : DayValue) (plan : PlanValue) (here : ℕ) (came : Vec (Parcel N b) Global)
      (task : Task N b) : Type 0 where
    pub fits : are_all day plan here came.items ≡ true
    pub task_is : IsTaskOf day plan here came.items task

  -- the parcels that came are not all, so they are no task, and come back as they were
  pub record IsNoTask (day : DayValue) (plan : PlanValue) (here : ℕ) (came given : Vec (Parcel N b) Global) : Type 0
    where
      pub fits : are_all day plan here came.items ≡ false
      pub back : given ≡ came
      pub complete : complete day plan here (parcels_of came.items) ≡ None

  -- the parcels are made into the task of this place, or come back
  abbrev pub Assembles : DayValue → PlanValue → ℕ → Vec (Parcel N b) Global
      → Result (Task N b) (Vec (Parcel N b) Global) → Type 0
  Assembles day plan place came result =
      MatchResult result (IsAssembled day plan place came) (IsNoTask day plan place came)
