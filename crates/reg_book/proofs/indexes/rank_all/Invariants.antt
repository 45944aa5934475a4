use Rattle.std.proofs.Common.{◌≡◌, ◌++◌, map, take, drop}
use Rattle.reg_book.specs.Indexes.{each_at, index_lists}
use Rattle.reg_book.proofs.indexes.rank_all.Given as goal

abbrev pub invariant-loop-own : goal.invariant-loop-own
invariant-loop-own l = index_lists l.indexes ≡ map (each_at l.ranks) (take l.own-index (index_lists l.fn.indexes))
    ++ drop l.own-index (index_lists l.fn.indexes)
