use Rattle.std.proofs.Common.{take}
use Rattle.reg_plan.proofs.Raising.{AreRaised}
use Rattle.reg_plan.proofs.levels.raise.Given as goal

abbrev pub invariant-loop-arrow : goal.invariant-loop-arrow
invariant-loop-arrow l = AreRaised (take l.arrow-index l.arrows) l.levels
