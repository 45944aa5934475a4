use Rattle.std.proofs.Common.{◌≡◌, length, take}
use Rattle.reg_book.specs.Indexes.{each_at}
use Rattle.reg_book.proofs.indexes.ranks_at.Given as goal

abbrev pub invariant-loop-index : goal.invariant-loop-index
invariant-loop-index l = record {
  so_far : l.own.items ≡ each_at l.ranks (take l.index-index l.indexes.items);
  so_many : length l.own.items ≡ l.index-index;
}
