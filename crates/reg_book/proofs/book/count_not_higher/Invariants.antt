use Rattle.std.proofs.Common.{◌≤◌, length}
use Rattle.reg_rules.specs.State.{numbers}
use Rattle.reg_book.specs.Book.{AreHigher}
use Rattle.reg_book.proofs.book.count_not_higher.Given as goal

abbrev pub invariant-loop-count : goal.invariant-loop-count
invariant-loop-count l = record {
  within : l.count ≤ length l.accounts;
  higher : AreHigher (numbers l.accounts) l.count l.number;
}

abbrev pub decreases-loop-count : goal.decreases-loop-count
decreases-loop-count l = l.count
