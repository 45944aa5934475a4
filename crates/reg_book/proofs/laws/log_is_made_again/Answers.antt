use Rattle.reg_book.proofs.Days.{log-again}
use Rattle.reg_book.proofs.laws.log_is_made_again.Goals as goal

pub returns : goal.returns
returns c = log-again
