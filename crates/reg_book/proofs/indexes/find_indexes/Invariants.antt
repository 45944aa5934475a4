use Rattle.std.proofs.Common.{◌≡◌, true, length, take}
use Rattle.std.specs.List.{list_all}
use Rattle.reg_base.specs.Directory.{is_known}
use Rattle.reg_rules.specs.State.{numbers}
use Rattle.reg_book.specs.Book.{directory_of}
use Rattle.reg_book.specs.Indexes.{StandAt}
use Rattle.reg_book.proofs.indexes.find_indexes.Given as goal

abbrev pub invariant-loop-number : goal.invariant-loop-number
invariant-loop-number l = record {
  there : StandAt (numbers l.accounts) l.indexes.items (take l.number-index l.wanted);
  known : list_all (is_known (directory_of l.accounts)) (take l.number-index l.wanted) ≡ true;
  so_many : length l.indexes.items ≡ l.number-index;
}
