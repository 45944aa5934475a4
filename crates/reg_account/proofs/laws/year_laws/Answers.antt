use Rattle.reg_account.proofs.Figures.{year-laws}
use Rattle.reg_account.proofs.laws.year_laws.Goals as goal

pub returns : goal.returns
returns c = year-laws
