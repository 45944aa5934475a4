use Rattle.reg_rules.proofs.Conserved.{step-conserves}
use Rattle.reg_rules.proofs.laws.step_conserves.Goals as goal

pub returns : goal.returns
returns c = step-conserves c.number_laws.ensures
