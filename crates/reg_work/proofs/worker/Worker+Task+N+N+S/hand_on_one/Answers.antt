use Rattle.std.proofs.Common.{inl}
use Rattle.std.specs.Option.{option_map}
use Rattle.std.proofs.lemmas.Result.{on_ok_weaker}
use Rattle.reg_tasks.specs.Tasks.{task_of}
use Rattle.reg_work.proofs.worker.Worker+Task+N+N+S.hand_on_one.Goals as goal

pub returns-in-Ok-clause-handed : goal.returns-in-Ok-clause-handed
returns-in-Ok-clause-handed g c =
    on_ok_weaker c.put_complete.result
    (λ put. inl (record { task = option_map task_of c.in-Ok.complete; taken = c.in-Ok.ensures.taken; put = put }))
    c.put_complete.ensures.task
