use Rattle.std.proofs.Common.{◌≡◌, length, drop}
use Rattle.reg_book.specs.Marks.{marked_at}
use Rattle.reg_book.proofs.touched.mark.Given as goal

abbrev pub invariant-loop-index : goal.invariant-loop-index
invariant-loop-index l = record {
  so_far : marked_at l.marks (drop l.index-index l.indexes.items) ≡ marked_at l.initial.marks l.indexes.items;
  size : length l.marks ≡ length l.initial.marks;
}
