use Rattle.std.proofs.Common.{◌≡◌, ◌++◌}
use Rattle.reg_levels.specs.Levels.{places_of, places_run}
use Rattle.reg_work.proofs.level.run_part.Given as goal

-- the tasks that were run, and those that are left, are the whole
abbrev pub invariant-loop-task : goal.invariant-loop-task
invariant-loop-task g l = record {
  next : (goal.iterator-loop-task g).can_next l.task-iterator;
  ends : (goal.iterator-loop-task g).is_finite l.task-iterator;
  places : places_run l.outcomes.items ++ places_of l.task-iterator.rest.items ≡ places_of l.fn.tasks.items;
}
