use Rattle.std.proofs.Common.{◌≡◌, ◌++◌, drop}
use Rattle.reg_book.specs.Marks.{picked}
use Rattle.reg_book.proofs.touched.copy_marked.Given as goal

abbrev pub invariant-loop-index : goal.invariant-loop-index
invariant-loop-index l = l.copies.items ++ picked (drop l.index l.marks) (drop l.index l.accounts)
    ≡ picked l.marks l.accounts
