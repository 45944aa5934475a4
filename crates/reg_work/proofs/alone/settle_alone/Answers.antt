use Rattle.std.proofs.Common.{length, ap, ◌∙◌}
use Rattle.reg_facts.specs.Counting.{once}
use Rattle.reg_work.proofs.alone.settle_alone.Goals as goal

pub returns-clause-shifts : goal.returns-clause-shifts
returns-clause-shifts g c =
    c.in_ok-shifts.ensures _ (λ p. c.in_ok-ran.ensures.each_once p
    ∙ ap (λ now. once (length now.batch.now.instructions) p) c.in_ok-slots.ensures.context)
