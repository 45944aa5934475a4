use Rattle.std.proofs.Common.{◌≡◌, ◌∷◌, ◌++◌, drop}
use Rattle.reg_plan.specs.TouchList.{opening_at, openings_after}
use Rattle.reg_plan.proofs.arrows.find_openings.Given as goal

abbrev pub invariant-loop-touch : goal.invariant-loop-touch
invariant-loop-touch l = l.openings.items ++ openings_after l.before (drop l.touch-index l.rest)
    ≡ opening_at l.initial.before ∷ openings_after l.initial.before l.rest
