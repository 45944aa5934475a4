use Rattle.reg_account.proofs.Trusts.{trust-laws}
use Rattle.reg_account.proofs.laws.trust_laws.Goals as goal

pub returns : goal.returns
returns c = trust-laws
