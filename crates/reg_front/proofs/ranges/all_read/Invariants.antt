use Rattle.std.proofs.Common.{◌≡◌, ◌++◌, Some, map}
use Rattle.reg_front.proofs.ranges.all_read.Given as goal

-- those that were read so far, and what is left, are the whole
abbrev pub invariant-loop-piece : goal.invariant-loop-piece
invariant-loop-piece l = record {
  can_go : goal.iterator-loop-piece.can_next l.piece-iterator;
  ends : goal.iterator-loop-piece.is_finite l.piece-iterator;
  so_far : map Some l.pieces.items ++ l.piece-iterator.rest.items ≡ l.fn.read.items;
}
