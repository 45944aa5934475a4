use Rattle.std.proofs.Common.{map, sym, ap, ◌∙◌}
use Rattle.std.specs.Option.{option_map}
use Rattle.reg_tasks.specs.Contexts.{the_day}
use Rattle.reg_tasks.specs.Tasks.{task_of}
use Rattle.reg_yard.proofs.Starting.{one-pushed, none-more}
use Rattle.reg_yard.proofs.start.open_dock.Goals as goal
use Rattle.reg_yard.proofs.start.open_dock.Goals.{in-Some+in_ok-push, in_default}

pub returns-clause-tasks : goal.returns-clause-tasks
returns-clause-tasks g c =
    let day = the_day c.args.context.now in
    let before = c.args.tasks.now.items in
    elim c.match-task.branch [
      | in-Some+in_ok-push w ↦ ap (λ v. map task_of v.items) w.tasks-is ∙ ap (map task_of) w.in_ok-push.ensures.items
          ∙ one-pushed day c.args.place w.in-Some.task before (sym (ap (option_map task_of) w.in-Some.is)
          ∙ c.in_ok-dock.ensures.at_once)
      | in_default w ↦ ap (λ v. map task_of v.items) w.tasks-is
          ∙ none-more day c.args.place (map task_of before) (sym (ap (option_map task_of) w.in_default.is)
          ∙ c.in_ok-dock.ensures.at_once)
    ]
