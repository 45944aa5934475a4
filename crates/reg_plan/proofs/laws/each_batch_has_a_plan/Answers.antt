use Rattle.reg_plan.proofs.PlanLaws.{each_has_a_plan}
use Rattle.reg_plan.proofs.laws.each_batch_has_a_plan.Goals as goal

pub returns : goal.returns
returns c = each_has_a_plan c.each_footprint_is_sound.ensures
