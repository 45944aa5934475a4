use Rattle.std.proofs.Common.{◌∙◌}
use Rattle.std.proofs.lemmas.Result.{on_ok_weaker}
use Rattle.reg_text.proofs.RowFacts.{appended}
use Rattle.reg_text.proofs.PlainRows.{totals-text}
use Rattle.reg_text.proofs.writing.report.put_row_of_totals.Goals as goal

pub returns : goal.returns
returns c =
    let row = rw (
      c.word-2.ensures.text,
      c.word.ensures.text,
      c.large_number-3.ensures.text,
      c.large_number-2.ensures.text,
      c.large_number.ensures.text,
      c.begin.ensures,
    ) at c.put.ensures in
    on_ok_weaker _ (appended _ _ _ _ _ (c.as_slice.ensures ∙ row) (totals-text c.args.kind c.args.totals.now))
    c.append.ensures
