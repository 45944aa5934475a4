use Rattle.std.proofs.Common.{ap, ◌∙◌}
use Rattle.reg_work.specs.Shifts.{times_in}
use Rattle.reg_work.proofs.Counting.{times-one_more}
use Rattle.reg_work.proofs.Dividing.{joined-more}
use Rattle.reg_work.proofs.tally.Work.add.Goals as goal

pub returns-clause-times : goal.returns-clause-times
returns-clause-times g c = λ p. ap (times_in p) c.in_ok-push-2.ensures.items ∙ times-one_more p _ _

pub returns-clause-closing : goal.returns-clause-closing
returns-clause-closing g c = joined-more _ _ c.args.closing c.in_ok-push.ensures.items
