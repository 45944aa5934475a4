use Rattle.std.proofs.Common.{◌≡◌, ◌++◌, drop}
use Rattle.reg_book.specs.Book.{directory_of}
use Rattle.reg_book.specs.Fold.{rows_of}
use Rattle.example_one_by_one.proofs.Applying.{setting_by}
use Rattle.example_one_by_one.proofs.apply_all.Given as goal

abbrev pub invariant-loop-instruction : goal.invariant-loop-instruction
invariant-loop-instruction l =
    let c = setting_by l.rules l.day (directory_of l.initial.book.accounts) in
    record {
      listed : directory_of l.book.accounts ≡ directory_of l.initial.book.accounts;
      so_far : l.rows.items ++ rows_of c l.book.accounts l.book.next (drop l.instruction-index l.instructions)
          ≡ rows_of c l.initial.book.accounts l.initial.book.next l.instructions;
    }
