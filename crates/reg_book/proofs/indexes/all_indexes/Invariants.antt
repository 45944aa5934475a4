use Rattle.std.proofs.Common.{take}
use Rattle.reg_rules.specs.State.{numbers}
use Rattle.reg_book.specs.Book.{directory_of}
use Rattle.reg_book.specs.Indexes.{AllStandAt, index_lists}
use Rattle.reg_book.proofs.indexes.all_indexes.Given as goal

abbrev pub invariant-loop-instruction : goal.invariant-loop-instruction
invariant-loop-instruction l = AllStandAt (directory_of l.accounts) (numbers l.accounts) (index_lists l.indexes.items)
    (take l.instruction-index l.instructions)
