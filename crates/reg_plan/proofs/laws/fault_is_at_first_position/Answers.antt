use Rattle.reg_plan.proofs.FaultPositions.{fault_position}
use Rattle.reg_plan.proofs.laws.fault_is_at_first_position.Goals as goal

pub returns : goal.returns
returns c = fault_position
