use Rattle.reg_account.proofs.Figures.{figure-laws}
use Rattle.reg_account.proofs.laws.figure_laws.Goals as goal

pub returns : goal.returns
returns c = figure-laws
