-- What a contract says of an owner, a stealer, and a pass at one deque.
use Rattle.atomic_blocks.specs.Lent.{RowsId}
use Rattle.std.specs.declared.alloc.Global.{Global}
use Rattle.atomic_table.specs.Seated.{TableId}
use Rattle.crossbeam_deque.specs.Handles.{worker_deque, worker_view, stealer_deque}
use Rattle.reg_deques.specs.declared.views.TicketView.{TicketView}
use Rattle.reg_deques.specs.declared.views.DequeView.{DequeView}
use Rattle.reg_deques.specs.declared.owner.Owner.{Owner}
use Rattle.reg_deques.specs.declared.stealer.Stealer.{Stealer}
use Rattle.reg_deques.specs.declared.pass.DequePass.{DequePass}

-- which deque it is, and which table has its tickets
abbrev pub DequeId : Type 0
DequeId = (RowsId × Global) × TableId

module _ {T : Type 0} {b : _} where
  abbrev pub owner_id : Owner T b → DequeId
  owner_id o = (worker_deque o.deque, o.table.value.shared.table_id)

  abbrev pub stealer_id : Stealer T b → DequeId
  stealer_id d = (stealer_deque d.stealer, d.table.value.shared.table_id)

  abbrev pub deque_pass_id : DequePass T b → DequeId
  deque_pass_id p = ((p.pass.rows, p.pass.heap), p.seat.table_id)

  -- what the owner put and took
  abbrev pub owned : Owner T b → DequeView
  owned o = worker_view o.deque

  -- what a pass at one deque says
  abbrev pub ticket_view_of : DequePass T b → TicketView
  ticket_view_of p = p.seat.me.0
