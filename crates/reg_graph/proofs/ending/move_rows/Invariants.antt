use Rattle.std.proofs.Common.{◌≡◌, ◌≤◌, ◌+◌, ◌++◌, length, vec_len, vec_capacity}
use Rattle.reg_schedules.specs.World.{known_of}
use Rattle.reg_graph.proofs.ending.move_rows.Given as goal

-- the rows so far, and those that come, are all
abbrev pub invariant-loop-row : goal.invariant-loop-row
invariant-loop-row l = record {
  next : goal.iterator-loop-row.can_next l.row-iterator;
  ends : goal.iterator-loop-row.is_finite l.row-iterator;
  rows : l.log.items ++ known_of l.row-iterator.rest.items ≡ known_of l.fn.rows.items;
  room : vec_len l.log + length l.row-iterator.rest.items ≤ vec_capacity l.log;
}
