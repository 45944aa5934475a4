-- What a worker knows of the deques, and how it takes tasks.
use Rattle.std.specs.Prelude.{◌≡◌, ℕ, Bool, true, false, List, [], ◌∷◌, All}
use Rattle.std.specs.List.{flat_map}
use Rattle.reg_deques.specs.declared.views.DequeView.{DequeView}
use Rattle.reg_deques.specs.declared.views.TicketView.{TicketView}
use Rattle.reg_deques.specs.Passes.{owned}
use Rattle.reg_deques.specs.Steps.{TakesOwn}
use Rattle.reg_deques.specs.Tickets.{empty_ticket_view}
use Rattle.reg_deques.specs.Views.{view, table_of, with_put}
use Rattle.reg_deques.specs.Yards.{views, worker_of, StealsAny}
use Rattle.reg_run.specs.declared.ran.Ran.{Ran}
use Rattle.reg_run.specs.declared.taker.Taker.{Taker}

-- a worker, counted from 0, and what it knows: of its own deque as its owner, and of each of the others as a thief
pub record WorkerView : Type 0 where
  pub worker : ℕ
  pub own : DequeView
  pub others : List TicketView

abbrev pub known_by : {T S : Type 0} {t : _} {s : _} → Taker T S t s → WorkerView
known_by taker = record { worker = worker_of taker.pass; own = owned taker.owner; others = views taker.pass }

-- the same worker, once it put tasks with these numbers into its own deque
abbrev pub knows_put : List ℕ → WorkerView → WorkerView
knows_put numbers k = record { worker = k.worker; own = with_put numbers k.own; others = k.others }

-- the owner of a deque put tasks, and took none
abbrev pub HasOnlyPut : DequeView → Type 0
HasOnlyPut v = v ≡ view true v.put [] [] (table_of v)

-- the numbers that owners put, one after another
abbrev pub all_put : List DequeView → List ℕ
all_put owners = flat_map (λ v. v.put) owners

-- a worker before it begins: it took nothing, and knows nothing of the others
pub record IsUnbegun (k : WorkerView) : Type 0 where
  pub own : HasOnlyPut k.own
  pub others : All (λ v. v ≡ empty_ticket_view) k.others

-- it took a task of this number, which was stolen or not: from another one's deque, or from its own
abbrev pub TakesNext : WorkerView → Bool → ℕ → WorkerView → Type 0
TakesNext k false number l = (l.worker ≡ k.worker) × TakesOwn k.own number l.own × (l.others ≡ k.others)
TakesNext k true number l = (l.worker ≡ k.worker) × (l.own ≡ k.own) × StealsAny k.worker k.others number l.others

-- it took the tasks that it ran, one after another
abbrev pub TakesTasks : {A : Type 0} → WorkerView → List (Ran A) → WorkerView → Type 0
TakesTasks k [] l = l ≡ k
TakesTasks k (r ∷ rs) l = (m : WorkerView) × TakesNext k r.stolen r.number m × TakesTasks m rs l

-- it took just these, one after another
pub record TookJust {A : Type 0} (k : WorkerView) (ran : List (Ran A)) : Type 0 where
  pub after : WorkerView
  pub taken : TakesTasks k ran after
