use Rattle.std.proofs.Common.{◌≡◌, ◌∙◌, List, ℕ, ◌∷◌, [], ◌<◌, false, refl, arith, length, map}
use Rattle.std.proofs.lemmas.Result.{on_ok_weaker}
use Rattle.reg_text.proofs.Names.{IsPlain, default_writer, is_blank, number}
use Rattle.reg_text.proofs.ListFacts.{all-map}
use Rattle.reg_text.proofs.PlainFacts.{plain-decimal}
use Rattle.reg_text.proofs.RowFacts.{appended, row-whole}
use Rattle.reg_text.proofs.writing.rows.put_numbers.Goals as goal

filled : (tag : List ℕ) (ns : List ℕ) → 0 < length ns → is_blank default_writer (tag ∷ map number ns) ≡ false
unfolding is_blank
filled tag [] some = absurd (omega arith)
filled tag (n ∷ ns) some = refl

pub returns : goal.returns
returns c =
    let ns = c.args.numbers.now in
    let row = rw (c.numbers.ensures.text, c.begin.ensures) at c.put.ensures in
    on_ok_weaker _ (appended _ _ _ _ _ (c.as_slice.ensures ∙ row)
    (row-whole c.args.tag.now (map number ns) (filled c.args.tag.now ns c.requires.some) (
      c.requires.plain,
      all-map IsPlain number plain-decimal ns,
    ))) c.append.ensures
