use Rattle.std.proofs.Common.{take}
use Rattle.reg_base.specs.Footprints.{footprints}
use Rattle.reg_plan.specs.Touched.{AreFlat}
use Rattle.reg_plan.proofs.Fewness.{EachFew}
use Rattle.reg_plan.proofs.touched.Touched.of.Given as goal

-- what is kept so far
abbrev pub invariant-loop-instruction : goal.invariant-loop-instruction
invariant-loop-instruction l = record {
  flat : AreFlat (footprints l.directory (take l.instruction-index l.instructions)) l.accounts.items l.ends.items;
  few : EachFew (footprints l.directory (take l.instruction-index l.instructions));
}
