use Rattle.std.proofs.Common.{◌∙◌}
use Rattle.std.proofs.lemmas.Result.{on_ok_weaker}
use Rattle.reg_text.proofs.RowFacts.{appended}
use Rattle.reg_text.proofs.PlainRows.{tagged-text}
use Rattle.reg_text.proofs.writing.rows.put_row.Goals as goal

pub returns : goal.returns
returns g c =
    let row = rw (c.tag_word.ensures.text, c.put_fields.ensures.text, c.begin.ensures) at c.put.ensures in
    on_ok_weaker _ (appended _ _ _ _ _ (c.as_slice.ensures ∙ row)
    (tagged-text g.T.Tagged.tag (g.T.Tagged.said c.args.value.now))) c.append.ensures
