use Rattle.std.proofs.Common.{ap, sym, subst, ◌∙◌}
use Rattle.reg_text.proofs.Names.{fields_of, rows_left, DraftValue, draft_of}
use Rattle.reg_text.proofs.Names.{heading_of, read_behind, next_draft, IsDraft}
use Rattle.reg_text.proofs.DraftSteps.{grows}
use Rattle.reg_text.proofs.PartFacts.{heading-is}
use Rattle.reg_text.proofs.reading.part.read_part.Goals as goal

pub take_row_behind-requires : goal.take_row_behind-requires
take_row_behind-requires c =
    let start = c.args.start.now in
    subst IsDraft (heading-is (draft_of start) c.requires.heading
    ∙ sym (c.empty-body.ensures (heading_of start.heading))) c.requires.fits

pub take_rows-requires-clause-fits : goal.take_rows-requires-clause-fits
take_rows-requires-clause-fits c =
    let start = c.args.start.now in
    (grows (read_behind start.heading c.empty-body.result) (read_behind start.heading c.take_row_behind.new.body)
    (fields_of c.next_row.new.row)
    (subst IsDraft (heading-is (draft_of start) c.requires.heading
    ∙ sym (c.empty-body.ensures (heading_of start.heading))) c.requires.fits) c.in-Ok.ensures).draft

pub returns : goal.returns
returns c =
    let start = c.args.start.now in
    let none = heading-is (draft_of start) c.requires.heading ∙ sym (c.empty-body.ensures (heading_of start.heading))
    in (
      c.is_cut.ensures c.if-not-is_cut.false,
      c.has_no_mark.ensures c.if-not-has_no_mark.false,
      record {
        row = fields_of c.next_row.new.row;
        others = rows_left c.next_row.new.reader;
        after_first = read_behind start.heading c.take_row_behind.new.body;
        rows_are = sym c.start_rows-reader.ensures.rows ∙ rw c.in-Ok-true.field-0-test at c.in-Ok-true.ensures.rows;
        takes_first = ap (λ (d : DraftValue). next_draft d (fields_of c.next_row.new.row)) none ∙ c.in-Ok.ensures;
        begins = c.in_ok-first.ensures;
        goes_on = c.in_ok-take_rows.ensures;
      },
    )
