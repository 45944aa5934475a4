use Rattle.reg_text.proofs.WrittenTexts.{plan-written}
use Rattle.reg_text.proofs.writing.laws.each_plan_is_written.Goals as goal

pub returns : goal.returns
returns c = plan-written
