use Rattle.reg_account.proofs.NoFaults.{fit-no_fault}
use Rattle.reg_account.proofs.laws.fit_accounts_have_no_fault.Goals as goal

pub returns : goal.returns
returns c = fit-no_fault
