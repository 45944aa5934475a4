use Rattle.std.proofs.Common.{◌≡◌, length, drop}
use Rattle.reg_book.specs.Marks.{all_marked_at}
use Rattle.reg_book.specs.Indexes.{index_lists}
use Rattle.reg_book.proofs.touched.mark_all.Given as goal

abbrev pub invariant-loop-own : goal.invariant-loop-own
invariant-loop-own l = record {
  so_far : all_marked_at l.marks (index_lists (drop l.own-index l.indexes))
      ≡ all_marked_at l.initial.marks (index_lists l.indexes);
  size : length l.marks ≡ length l.initial.marks;
}
