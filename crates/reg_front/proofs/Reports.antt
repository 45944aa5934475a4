-- A report that was made of the batch and the replies.
use Rattle.std.proofs.Common.{◌≡◌, ℕ, List, ap, ◌∙◌}
use Rattle.reg_rules.specs.declared.reply.LogRow.{LogRow}
use Rattle.reg_rules.specs.declared.reply.Reply.{Reply}
use Rattle.reg_book.specs.Book.{BookValue}
use Rattle.reg_book.specs.Chains.{book_after}
use Rattle.reg_book.specs.Day.{DayValue, replies_of, rows_replied}
use Rattle.reg_book.specs.Laws.{LogIsMadeAgain}
use Rattle.reg_text.specs.NextDays.{report_of}
use Rattle.reg_text.specs.Report.{text_of, report_rows}

-- it is the report of the day, if these are the book and the replies of the day
pub reported : LogIsMadeAgain → (day : DayValue) (book : BookValue) (replies : List Reply) (text : List ℕ)
    → book ≡ book_after day → replies ≡ replies_of day
    → text ≡ text_of (report_rows book (rows_replied day.batch replies)) → text ≡ report_of day
reported again day book replies text closed replied made =
    made ∙ ap (λ (b : BookValue). text_of (report_rows b (rows_replied day.batch replies))) closed
    ∙ ap (λ (rs : List Reply). text_of (report_rows (book_after day) (rows_replied day.batch rs))) replied
    ∙ ap (λ (rows : List LogRow). text_of (report_rows (book_after day) rows)) (again day)
