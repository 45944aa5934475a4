use Rattle.std.proofs.Common.{◌≡◌, ◌++◌, drop}
use Rattle.reg_plan.specs.TouchList.{arrows_after}
use Rattle.reg_plan.proofs.arrows.find_arrows.Given as goal

abbrev pub invariant-loop-touch : goal.invariant-loop-touch
invariant-loop-touch l = l.arrows.items ++ arrows_after l.before (drop l.touch-index l.rest)
    ≡ arrows_after l.initial.before l.rest
