use Rattle.std.proofs.Common.{◌≡◌, ◌-◌, ◌++◌, length}
use Rattle.reg_levels.specs.Levels.{places_between, places_of, places_run}
use Rattle.example_uses.proofs.levels.settle_by_levels.Given as goal

-- the tasks that were run, and those that are left, are those that were taken
abbrev pub invariant-loop-task : goal.invariant-loop-task
invariant-loop-task g l = record {
  next : (goal.iterator-loop-task g).can_next l.task-iterator;
  ends : (goal.iterator-loop-task g).is_finite l.task-iterator;
  places : places_run l.outcomes.items ++ places_of l.task-iterator.rest.items
      ≡ places_between l.levels.order.items l.levels.laid l.levels.taken;
}

-- all outcomes so far were laid
abbrev pub invariant-loop-alloc : goal.invariant-loop-alloc
invariant-loop-alloc g l = l.levels.laid ≡ l.levels.taken

-- each level has a task
abbrev pub decreases-loop-alloc : goal.decreases-loop-alloc
decreases-loop-alloc g l = length l.levels.order.items - l.levels.taken
