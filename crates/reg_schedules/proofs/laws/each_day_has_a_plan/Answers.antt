use Rattle.reg_schedules.specs.Pool.{directory}
use Rattle.reg_schedules.proofs.laws.each_day_has_a_plan.Goals as goal

pub returns : goal.returns
returns c = λ day. c.each_batch_has_a_plan.ensures (directory day) day.batch.instructions
