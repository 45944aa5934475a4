use Rattle.std.specs.Prelude.{IsPermutation}
use Rattle.reg_tasks.proofs.nearby.bring_near.Given as goal

abbrev pub invariant-loop : goal.invariant-loop
invariant-loop g l = IsPermutation l.initial.items l.items
