use Rattle.std.proofs.Common.{◌≡◌, ◌+◌, ◌++◌, length, drop}
use Rattle.reg_book.specs.Fold.{rows_from}
use Rattle.reg_book.specs.Day.{rows_replied}
use Rattle.reg_book.proofs.settle.make_log.Given as goal

-- a reply is left for each instruction that is left; the rows so far, and those of what is left, are the whole
abbrev pub invariant-loop-reply : goal.invariant-loop-reply
invariant-loop-reply l = record {
  next : goal.iterator-loop-reply.can_next l.reply-iterator;
  ends : goal.iterator-loop-reply.is_finite l.reply-iterator;
  counted : l.last ≡ l.batch.base + l.index;
  left : l.index + length l.reply-iterator.rest.items ≡ length l.batch.instructions;
  so_far : l.rows.items ++ rows_from l.batch.day (l.last + 1)
      (drop l.index l.batch.instructions) l.reply-iterator.rest.items ≡ rows_replied l.batch l.fn.replies.items;
}
