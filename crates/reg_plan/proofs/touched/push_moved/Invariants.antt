use Rattle.std.proofs.Common.{◌≡◌, ◌++◌, drop}
use Rattle.reg_plan.specs.Touched.{moved_by}
use Rattle.reg_plan.proofs.touched.push_moved.Given as goal

abbrev pub invariant-loop-place : goal.invariant-loop-place
invariant-loop-place l = l.ends.items ++ moved_by l.later (drop l.place-index l.places)
    ≡ l.fn.ends.items ++ moved_by l.later l.places
