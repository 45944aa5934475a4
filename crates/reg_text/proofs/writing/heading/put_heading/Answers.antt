-- The sections of a heading, one behind another.
use Rattle.std.proofs.lemmas.Result.{on_ok_weaker}
use Rattle.reg_text.specs.declared.reading.tag.Tag.TheVariants as tag
use Rattle.reg_text.specs.Grammar.{row_text}
use Rattle.reg_text.specs.Sections.{each_row}
use Rattle.reg_text.specs.Spelling.{current_rows, lags_in}
use Rattle.reg_text.proofs.Headings.{heading-whole}
use Rattle.reg_text.proofs.writing.heading.put_heading.Goals as goal

pub returns : goal.returns
returns c =
    let rules = c.args.rules.now in
    let day = rw c.next_record.ensures.value at c.in_ok-put_row-2.ensures in
    let periods = rw c.periods.ensures.value at c.in_ok-put_list.ensures in
    let current = rw c.current.ensures.value at c.in_ok-put_current.ensures in
    let lags = rw c.lags_of.ensures at c.in_ok-put_row-3.ensures in
    let surrender = rw c.surrender.ensures at c.in_ok-put_list-2.ensures in
    let admins = rw c.admins.ensures.value at c.in_ok-put_list-3.ensures in
    let work = rw (c.days.ensures.value, c.calendar.ensures) at c.put_list-4.ensures in
    on_ok_weaker _ (heading-whole _ _ _ _ _ _ _ _ _ (row_text tag.Format c.args.version)
    (row_text tag.Day (c.args.day, c.args.book.now.next)) (row_text tag.Lags (lags_in rules))
    (each_row tag.Period rules.periods) (each_row tag.Current (current_rows c.args.version rules.current))
    (each_row tag.Surrender rules.surrender) (each_row tag.Admin rules.admins) (each_row tag.Work rules.calendar)
    c.in_ok-put_row.ensures day periods current lags surrender admins) work
