use Rattle.std.proofs.Common.{◌≡◌, ◌+◌, ◌-◌, ◌≤◌, ◌++◌, map}
use Rattle.reg_base.specs.Rising.{count_up}
use Rattle.reg_tasks.specs.Contexts.{the_day}
use Rattle.reg_tasks.specs.Tasks.{task_of}
use Rattle.reg_yard.specs.AtOnce.{tasks_from}
use Rattle.reg_yard.specs.Docks.{dock_places}
use Rattle.reg_yard.proofs.start.open_docks.Given as goal

-- the docks so far, and those that come, are all; and so the tasks
abbrev pub invariant-loop-before : goal.invariant-loop-before
invariant-loop-before g l = record {
  few : l.before ≤ l.places;
  docks : dock_places l.docks.items ++ count_up (l.before + 1) (l.places - l.before) ≡ count_up 1 l.places;
  tasks : map task_of l.tasks.items ++ tasks_from (the_day l.context) (l.before + 1) (l.places - l.before)
      ≡ tasks_from (the_day l.context) 1 l.places;
}
