use Rattle.std.proofs.Common.{◌≡◌, ◌-◌, length}
use Rattle.reg_work.proofs.waves.run_all.Given as goal

-- all outcomes so far were laid, of the same context
abbrev pub invariant-loop-alloc : goal.invariant-loop-alloc
invariant-loop-alloc g l = record {
  laid : l.levels.laid ≡ l.levels.taken;
  context : l.levels.slots.context.now ≡ l.initial.levels.slots.context.now;
}

-- each level has a task
abbrev pub decreases-loop-alloc : goal.decreases-loop-alloc
decreases-loop-alloc g l = length l.levels.order.items - l.levels.taken
