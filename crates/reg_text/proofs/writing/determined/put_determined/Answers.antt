use Rattle.std.proofs.Common.{refl, codes, ◌∙◌}
use Rattle.std.proofs.lemmas.Result.{on_ok_weaker}
use Rattle.reg_text.proofs.RowFacts.{appended, row-plain}
use Rattle.reg_text.proofs.PlainFacts.{plain-decimal, plain-signed}
use Rattle.reg_text.proofs.writing.determined.put_determined.Goals as goal

pub returns : goal.returns
returns c =
    let f = c.args.figure.now in
    let row = rw (
      c.number.ensures.text,
      c.into.ensures,
      c.get.ensures.value,
      c.put_fields.ensures.text,
      c.begin.ensures,
    ) at c.put.ensures in
    on_ok_weaker _ (appended _ _ _ _ _ (c.as_slice.ensures ∙ row)
    (row-plain (codes "determined") _ _
    (refl, (plain-decimal c.args.account, (plain-decimal f.year, (plain-signed f.tonnes, tt))))))
    c.append.ensures
