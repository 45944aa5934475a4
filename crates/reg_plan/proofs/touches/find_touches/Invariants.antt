use Rattle.std.proofs.Common.{◌≡◌, ◌+◌, ◌++◌, drop}
use Rattle.reg_plan.specs.TouchList.{touches_of}
use Rattle.reg_plan.proofs.touches.find_touches.Given as goal

abbrev pub invariant-loop-index : goal.invariant-loop-index
invariant-loop-index l = record {
  behind : l.touches.items ++ touches_of l.place (drop l.index l.touched) ≡ touches_of l.first l.touched;
  place : l.place ≡ l.first + l.index;
}
