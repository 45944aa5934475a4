use Rattle.std.proofs.Common.{length}
use Rattle.reg_text.proofs.writing.row.RowText.+numbers.Given as goal

abbrev pub decreases-numbers : goal.decreases-numbers
decreases-numbers l = length l.numbers.now
