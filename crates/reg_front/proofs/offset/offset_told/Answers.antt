-- The word up to the end of the line behind the head.
use Rattle.std.proofs.Common.{codes, Some}
use Rattle.std.specs.Cmp.{unsigned_Decides}
use Rattle.std.proofs.lemmas.Slice.Eq.{strip_prefix_is}
use Rattle.reg_front.proofs.Offsets.{told}
use Rattle.reg_front.proofs.offset.offset_told.Goals as goal

pub returns : goal.returns
returns c =
    told c.args.text.now c.in_ok-line.line.now c.in_ok-end.end c.read_word.result
    (strip_prefix_is unsigned_Decides c.args.text.now (codes "pos:\t") (Some c.in_ok-line.line)
    c.in_ok-line.ensures.cases)
    c.in_ok-end.ensures c.read_word.ensures.numeral c.read_word.ensures.value
