use Rattle.reg_book.proofs.Values.{numbers-day, others-day}
use Rattle.reg_book.proofs.laws.untouched_stay.Goals as goal

pub returns : goal.returns
returns c = record { accounts = others-day c.step_laws.ensures; numbers = numbers-day c.step_laws.ensures }
