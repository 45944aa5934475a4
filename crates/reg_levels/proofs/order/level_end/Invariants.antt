use Rattle.reg_levels.specs.Levels.{IsOneLevel}
use Rattle.reg_levels.proofs.order.level_end.Given as goal

-- those so far have its level
abbrev pub invariant-loop-index : goal.invariant-loop-index
invariant-loop-index l = IsOneLevel l.plan l.order l.from l.index
