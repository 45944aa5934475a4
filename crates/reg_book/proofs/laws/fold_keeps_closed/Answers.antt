use Rattle.reg_book.proofs.ClosedStay.{closed-stays, closed-never_left}
use Rattle.reg_book.proofs.laws.fold_keeps_closed.Goals as goal

pub returns : goal.returns
returns c = record {
  value = closed-stays c.step_keeps_closed.ensures.value;
  status = closed-never_left c.step_keeps_closed.ensures.value;
}
