use Rattle.reg_plan.proofs.LastTouchers.{tails_are_last}
use Rattle.reg_plan.proofs.laws.tails_are_last_touchers.Goals as goal

pub returns : goal.returns
returns c = tails_are_last c.last_toucher_is_last.ensures
