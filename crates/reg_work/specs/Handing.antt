-- What becomes of a parcel that a worker delivers: a dock takes it, and the task that the dock gives out is put into
-- the worker's own deque.
use Rattle.std.specs.Prelude.{◌≡◌, ℕ, [], ◌∷◌, Option, Some, None}
use Rattle.reg_book.specs.Day.{DayValue}
use Rattle.reg_schedules.specs.Docks.{ParcelValue, TaskValue}
use Rattle.reg_deques.specs.declared.views.DequeView.{DequeView}
use Rattle.reg_deques.specs.Views.{with_put}
use Rattle.reg_yard.specs.Held.{IsTaken}

-- what the owner of a deque knows after this task was put, if there is one
abbrev pub with_task : Option TaskValue → DequeView → DequeView
with_task None v = v
with_task (Some t) v = with_put (t.place ∷ []) v

-- a dock took the parcel. If it gave out a task, that was put, and otherwise nothing was
pub record IsDelivered (name : Option DayValue) (goes : Option ℕ) (p : ParcelValue)
    (before after : DequeView) : Type 0 where
  pub task : Option TaskValue
  pub taken : IsTaken name goes p task
  pub put : after ≡ with_task task before
