-- What a dock holds, and what becomes of a parcel that is delivered to it. While parcels wait in a dock, it is seen as
-- their list; once its task has gone out, nothing is in it any more, since all that the place awaits has come.
use Rattle.std.specs.Prelude.{◌≡◌, ℕ, ◌+◌, ◌≤◌, Bool, true, false, List, [], ◌∷◌, ◌++◌, length, Option, Some, None}
use Rattle.std.specs.Prelude.{is_some, vec_capacity, if◌then◌else◌}
use Rattle.std.specs.Option.{option_map}
use Rattle.std.specs.declared.vec.Vec.{Vec}
use Rattle.std.proofs.Common.{Global}
use Rattle.reg_plan.specs.Plans.{PlanValue}
use Rattle.reg_book.specs.Day.{DayValue}
use Rattle.reg_schedules.specs.Laws.{IsPlanOf}
use Rattle.reg_schedules.specs.Pool.{footprint_at}
use Rattle.reg_schedules.specs.Docks.{ParcelValue, TaskValue, complete, still_awaited, is_not_awaited, received}
use Rattle.reg_tasks.specs.declared.naming.Naming.{Ghosts}
use Rattle.reg_tasks.specs.declared.parcel.Parcel.{Parcel}
use Rattle.reg_tasks.specs.Parcels.{parcels_of}

-- the parcel is not awaited, or has come already
abbrev pub is_refused : DayValue → PlanValue → ℕ → Option (List ParcelValue) → ParcelValue → Bool
is_refused day plan place None p = true
is_refused day plan place (Some came) p = is_not_awaited day plan place came p

-- what stays in a dock of what came, and the task that goes out
abbrev pub left_of : List ParcelValue × Option TaskValue → Option (List ParcelValue) × Option TaskValue
left_of (came, task) = (if is_some task then None else Some came, task)

-- the same at a place: its task goes out if all that it awaits has come
abbrev pub left_at : DayValue → PlanValue → ℕ → List ParcelValue → Option (List ParcelValue) × Option TaskValue
left_at day plan place came = left_of (came, complete day plan place came)

-- the same after one parcel more
abbrev pub delivered : DayValue → PlanValue → ℕ → Option (List ParcelValue) → ParcelValue
    → Option (List ParcelValue) × Option TaskValue
delivered day plan place None p = (None, None)
delivered day plan place (Some came) p = left_of (received day plan place came p)

-- those that came and those that are still awaited are no more than the accounts that the place's instruction touches
abbrev pub FitInDock : DayValue → PlanValue → ℕ → List ParcelValue → Type 0
FitInDock day plan place came =
    length came + length (still_awaited day plan place came) ≤ length (footprint_at day place)

-- a dock took the parcel: that of the place where the parcel goes, in a day and by a plan of it. If a day is named, it
-- is that one. The task went out exactly if the parcel was the last. Which parcels had come before stands behind a
-- lock; but they fitted in the dock, so none had come to a place that needs this parcel alone
pub record IsTaken (name : Option DayValue) (goes : Option ℕ) (p : ParcelValue) (task : Option TaskValue) : Type 0 where
  pub day : DayValue
  pub plan : PlanValue
  pub place : ℕ
  pub before : List ParcelValue
  pub named : (d : DayValue) → name ≡ Some d → day ≡ d
  pub planned : ∥ IsPlanOf day plan ∥₁
  pub there : goes ≡ Some place
  pub fits : FitInDock day plan place before
  pub was_awaited : is_not_awaited day plan place before p ≡ false
  pub gives : task ≡ complete day plan place (before ++ p ∷ [])

module _ {N : Type 0} {b : Ghosts N} where
  -- the parcels that wait, if any do
  abbrev pub waiting_of : Option (Vec (Parcel N b) Global) → Option (List ParcelValue)
  waiting_of waiting = option_map (λ parcels. parcels_of parcels.items) waiting

  -- if parcels wait, they are that few
  abbrev pub FewWait : DayValue → PlanValue → ℕ → Option (Vec (Parcel N b) Global) → Type 0
  FewWait day plan place waiting =
      (parcels : Vec (Parcel N b) Global) → waiting ≡ Some parcels → FitInDock day plan place (parcels_of parcels.items)

  -- if parcels wait, there is room for one of each account that the place's instruction touches
  abbrev pub HaveRoom : DayValue → ℕ → Option (Vec (Parcel N b) Global) → Type 0
  HaveRoom day place waiting = (parcels : Vec (Parcel N b) Global) → waiting ≡ Some parcels
      → vec_capacity parcels ≡ length (footprint_at day place)
