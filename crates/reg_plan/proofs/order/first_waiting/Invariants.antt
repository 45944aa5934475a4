use Rattle.std.proofs.Common.{◌≡◌, drop}
use Rattle.std.specs.Prelude.{find, not}
use Rattle.reg_plan.specs.Orders.{marked}
use Rattle.reg_plan.proofs.order.first_waiting.Given as goal

abbrev pub invariant-loop-arrow : goal.invariant-loop-arrow
invariant-loop-arrow l = find (λ arrow. not (marked l.came arrow.from)) (drop l.arrow-index l.arrows)
    ≡ find (λ arrow. not (marked l.came arrow.from)) l.arrows
