use Rattle.reg_base.proofs.Faults.{fit-no_fault}
use Rattle.reg_base.proofs.laws.fit_rules_have_no_fault.Goals as goal

pub returns : goal.returns
returns c = fit-no_fault
