use Rattle.reg_base.proofs.PeriodLaws.{period_of_is_the_only_one}
use Rattle.reg_base.proofs.laws.period_of_is_the_only_one.Goals as goal

pub returns : goal.returns
returns c = period_of_is_the_only_one
