-- The report of the book and the replies is that of the day.
use Rattle.std.proofs.Common.{List, ap, ◌∙◌}
use Rattle.reg_rules.specs.declared.reply.LogRow.{LogRow}
use Rattle.reg_rules.specs.declared.reply.Reply.{Reply}
use Rattle.reg_book.specs.Book.{BookValue}
use Rattle.reg_book.specs.Day.{log_of, rows_replied}
use Rattle.reg_text.specs.Inputs.{day_of_input}
use Rattle.reg_text.specs.Report.{report_rows, text_of}
use Rattle.registry_c.proofs.texts.make_report.Goals as goal

pub returns : goal.returns
returns c =
    let closed = c.in_ok-closed.closed in
    let day = day_of_input c.args.day in
    c.in_ok-text.ensures
    ∙ ap (λ (replies : List Reply). text_of (report_rows closed.book (rows_replied day.batch replies)))
    (c.as_slice-replies.ensures.value ∙ c.in_ok-closed.ensures.replies)
    ∙ ap (λ (rows : List LogRow). text_of (report_rows closed.book rows)) (c.log_is_made_again.ensures day)
    ∙ ap (λ (book : BookValue). text_of (report_rows book (log_of day))) c.in_ok-closed.ensures.book
