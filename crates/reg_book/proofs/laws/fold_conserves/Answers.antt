use Rattle.reg_book.proofs.Conserved.{fold-conserves}
use Rattle.reg_book.proofs.laws.fold_conserves.Goals as goal

pub returns : goal.returns
returns c = fold-conserves c.step_laws.ensures c.step_conserves.ensures
