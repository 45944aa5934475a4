use Rattle.reg_text.proofs.WrittenTexts.{totals-written}
use Rattle.reg_text.proofs.writing.laws.all_totals_are_written.Goals as goal

pub returns : goal.returns
returns c = totals-written
