use Rattle.std.proofs.Common.{refl, length}
use Rattle.reg_book.specs.Book.{directory_of}
use Rattle.reg_book.specs.Day.{closing_state}
use Rattle.reg_book.proofs.Closings.{kept-after_day}
use Rattle.reg_book.proofs.Days.{closing-all}
use Rattle.reg_book.proofs.laws.closing_is_a_book.Goals as goal

pub returns : goal.returns
returns c = λ day of.
    kept-after_day c.step_laws.ensures day (closing_state day) (directory_of day.book.accounts) day.book.next
    (length day.batch.instructions) of (closing-all day) refl refl refl
