use Rattle.reg_book.proofs.Values.{ready-day}
use Rattle.reg_book.proofs.laws.stays_ready.Goals as goal

pub returns : goal.returns
returns c = ready-day c.step_laws.ensures
