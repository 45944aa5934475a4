-- The report that is made of the book and the replies is the report of the day.
use Rattle.std.proofs.Common.{List, ap, ◌∙◌}
use Rattle.reg_rules.specs.declared.reply.LogRow.{LogRow}
use Rattle.reg_rules.specs.declared.reply.Reply.{Reply}
use Rattle.reg_book.specs.Book.{BookValue}
use Rattle.reg_book.specs.Chains.{book_after}
use Rattle.reg_book.specs.Day.{rows_replied}
use Rattle.reg_text.specs.Inputs.{day_of_parts}
use Rattle.reg_text.specs.Report.{text_of, report_rows}
use Rattle.example_with_workers.proofs.report_by_workers.Goals as goal

pub returns : goal.returns
returns g c =
    let day = day_of_parts c.args.day in
    let closed = c.in-Ok.closed in
    let batch = day.batch in
    c.in-Ok-write_report_pieces.ensures
    ∙ ap (λ (rs : List Reply). text_of (report_rows closed.parts (rows_replied batch rs)))
    c.as_slice-replies.ensures.value
    ∙ ap (λ (b : BookValue). text_of (report_rows b (rows_replied batch closed.replies.items)))
    c.in-Ok.ensures.closed.2
    ∙ ap (λ (rs : List Reply). text_of (report_rows (book_after day) (rows_replied batch rs)))
    c.in-Ok.ensures.replies
    ∙ ap (λ (rows : List LogRow). text_of (report_rows (book_after day) rows)) (c.log_is_made_again.ensures day)
