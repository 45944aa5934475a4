-- What a call asks of a day: the text that answers it, and why there may be none.
use Rattle.std.specs.Prelude.{◌≡◌, ℕ, List, false, true, ⊤}
use Rattle.reg_book.specs.Book.{BookValue}
use Rattle.reg_book.specs.Chains.{book_after}
use Rattle.reg_book.specs.Day.{DayValue, log_of}
use Rattle.reg_text.specs.Determined.{figures_rows}
use Rattle.reg_text.specs.NextDays.{report_of}
use Rattle.reg_text.specs.PlanText.{IsPlanText}
use Rattle.reg_text.specs.Report.{log_rows, text_of}
use Rattle.reg_text.specs.Statement.{has_account, statement_of, statements_of}
use Rattle.reg_text.specs.Totals.{totals_rows}
use Rattle.registry_c.specs.declared.fault.Fault.{Fault}
use Rattle.registry_c.specs.declared.fault.Fault.TheVariants as fault
use Rattle.registry_c.specs.declared.question.Question.{Question}
use Rattle.registry_c.specs.declared.question.Question.TheVariants.{Figures, Log, Plan, Report, Statement}
use Rattle.registry_c.specs.declared.question.Question.TheVariants.{Statements, Totals}

-- these bytes are the text that answers the question of this day; only an account of the book has a statement
abbrev pub IsAnswer : Question → DayValue → List ℕ → Type 0
IsAnswer Report day text = text ≡ report_of day
IsAnswer Log day text = text ≡ text_of (log_rows (log_of day))
IsAnswer Plan day text = IsPlanText day text
IsAnswer (Statement account) day text = (has_account day.book account ≡ true)
    × (text ≡ text_of (statement_of day.book (log_of day) account))
IsAnswer Statements day text = text ≡ statements_of day.book (log_of day)
IsAnswer Figures day text = text ≡ text_of (figures_rows (book_after day))
IsAnswer Totals day text = text ≡ text_of (totals_rows (book_after day))

-- the account of a statement is not in the book
abbrev pub AsksForNobody : Question → BookValue → Type 0
AsksForNobody (Statement account) book = has_account book account ≡ false
AsksForNobody question book = ⊥

-- why a day that was read has no such text: the account is not in its book, or memory ran out, which can always be
abbrev pub IsRefusal : Question → BookValue → Fault → Type 0
IsRefusal question book (fault.Row row cause) = ⊥
IsRefusal question book fault.NoAccount = AsksForNobody question book
IsRefusal question book fault.NoDate = ⊥
IsRefusal question book fault.NoMemory = ⊤
