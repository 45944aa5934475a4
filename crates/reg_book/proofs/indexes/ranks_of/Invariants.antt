use Rattle.std.proofs.Common.{◌≡◌, ◌≤◌, ◌++◌, drop}
use Rattle.reg_book.specs.Marks.{ranks_from}
use Rattle.reg_book.proofs.indexes.ranks_of.Given as goal

abbrev pub invariant-loop-mark : goal.invariant-loop-mark
invariant-loop-mark l = record {
  so_far : l.ranks.items ++ ranks_from l.count (drop l.mark-index l.marks) ≡ ranks_from 0 l.marks;
  bound : l.count ≤ l.mark-index;
}
