use Rattle.reg_rules.proofs.ClosedStay.{done-on_none, closed-stays, closed-never_left}
use Rattle.reg_rules.proofs.laws.step_keeps_closed.Goals as goal

pub returns : goal.returns
returns c = record { nothing_done = done-on_none; value = closed-stays; status = closed-never_left }
