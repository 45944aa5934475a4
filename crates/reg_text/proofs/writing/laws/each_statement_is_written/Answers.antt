use Rattle.reg_text.proofs.WrittenTexts.{statement-written}
use Rattle.reg_text.proofs.writing.laws.each_statement_is_written.Goals as goal

pub returns : goal.returns
returns c = statement-written
