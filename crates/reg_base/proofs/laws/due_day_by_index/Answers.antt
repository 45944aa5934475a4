use Rattle.reg_base.proofs.DueDayLaws.{due_day_by_index}
use Rattle.reg_base.proofs.laws.due_day_by_index.Goals as goal

pub returns : goal.returns
returns c = due_day_by_index
