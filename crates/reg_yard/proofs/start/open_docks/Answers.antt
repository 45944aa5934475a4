use Rattle.std.proofs.Common.{◌≡◌, length, map, arith, rules, ap, ◌∙◌}
use Rattle.reg_base.specs.Rising.{count_up}
use Rattle.reg_tasks.specs.Contexts.{the_day}
use Rattle.reg_tasks.specs.Tasks.{task_of}
use Rattle.reg_yard.specs.AtOnce.{tasks_from}
use Rattle.reg_yard.proofs.Starting.{started-more, all-started, docked-more, all-docked}
use Rattle.reg_yard.proofs.start.open_docks.Goals as goal

pub loop-before-preserved : goal.loop-before-preserved
loop-before-preserved g c =
    let day = the_day c.args.context.now in
    let n = c.len-places.result in
    let k = c.loop-before.before in
    record {
      few = omega (arith, c.loop-before-test.true);
      docks = docked-more n k c.loop-before.docks.items c.push.new.self.items c.in_ok-open_dock.field-0
          (count_up 1 n) c.loop-before-test.true c.in_ok-push.ensures.items c.in_ok-open_dock.ensures.place
          c.loop-before.invariant.docks;
      tasks = started-more day n k (map task_of c.loop-before.tasks.items) (map task_of c.open_dock.new.tasks.items)
          (tasks_from day 1 n) c.loop-before-test.true c.in_ok-open_dock.ensures.tasks c.loop-before.invariant.tasks;
    }

pub returns-clause-places : goal.returns-clause-places
returns-clause-places g c =
    let n = c.len-places.result in
    let size : n ≡ length c.args.context.now.batch.now.instructions = search rules in
    all-docked n c.loop-before.before c.loop-before.docks.items (count_up 1 n) c.loop-before-test.false
    c.loop-before.invariant.docks ∙ ap (count_up 1) size

pub returns-clause-tasks : goal.returns-clause-tasks
returns-clause-tasks g c =
    let day = the_day c.args.context.now in
    let n = c.len-places.result in
    let size : n ≡ length c.args.context.now.batch.now.instructions = search rules in
    all-started day n c.loop-before.before (map task_of c.loop-before.tasks.items)
    (tasks_from day 1 n) c.loop-before-test.false c.loop-before.invariant.tasks ∙ ap (tasks_from day 1) size
