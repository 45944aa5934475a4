use Rattle.std.proofs.lemmas.List.Sorted.{IsPermutation-trans}
use Rattle.reg_tasks.proofs.nearby.bring_near.Goals as goal

pub loop-preserved : goal.loop-preserved
loop-preserved g c = IsPermutation-trans _ _ _ c.loop.invariant c.bring_one-at.ensures
