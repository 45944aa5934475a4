-- The whole rule of a deque of tasks with tickets.
use Rattle.std.specs.Prelude.{◌≡◌, ℕ, suc, List, [], ◌∷◌, map, length}
use mathlib.Core.Option.{some}
use lib.ListN.{get_elem?}
use Rattle.atomic_table.specs.Seated.{TableId}
use Rattle.reg_deques.specs.declared.numbered.Numbered.{Ghosts}
use Rattle.reg_deques.specs.declared.views.DequeView.{DequeView}
use Rattle.reg_deques.specs.declared.ticket.Ticketed.{Ticketed}
use Rattle.reg_deques.specs.Views.{table_of}
use Rattle.reg_deques.specs.Deques.{IsInOrder}

-- the rule sees of a task in the deque its number, and its ticket: for which position, and of which table
pub record Queued : Type 0 where
  pub number : ℕ
  pub position : ℕ
  pub table : TableId

module _ {T : Type 0} {b : Ghosts T} where
  abbrev pub queued : Ticketed T b → Queued
  queued t = record { number = b.number t.task; position = length t.ticket.me.0.seen; table = t.ticket.table_id }

  abbrev pub queue_of : List (Ticketed T b) → List Queued
  queue_of tasks = map queued tasks

abbrev pub numbers_of : List Queued → List ℕ
numbers_of tasks = map (λ t. t.number) tasks

-- each task has the ticket of its position, of this table: the first task has the position after k
abbrev pub AreTicketed : List TableId → ℕ → List Queued → Type 0
AreTicketed table k [] = Unit {0}
AreTicketed table k (t ∷ ts) = (t.position ≡ suc k) × (t.table ∷ [] ≡ table) × AreTicketed table (suc k) ts

-- the tasks in the deque, and the views of all who have one
pub record IsDeque (tasks : List Queued) (views : List DequeView) : Type 0 where
  pub owner : ℕ
  pub put : List ℕ
  pub k : ℕ
  pub order : IsInOrder owner put k (numbers_of tasks) views
  -- all know the same table of tickets. Until it is told, there is the owner alone
  pub table : List TableId
  pub same : (port : ℕ) (v : DequeView) → get_elem? views port ≡ some v → table_of v ≡ table
  pub alone : table ≡ [] → length views ≡ 1
  pub ticketed : AreTicketed table k tasks
