use Rattle.std.specs.Option.{option_map}
use Rattle.std.proofs.lemmas.Result.{on_ok_weaker}
use Rattle.reg_tasks.specs.Tasks.{task_of}
use Rattle.reg_work.proofs.worker.Worker+Task+N+N+S.deliver.Goals as goal

pub returns-in-Ok-clause-delivered : goal.returns-in-Ok-clause-delivered
returns-in-Ok-clause-delivered g c =
    on_ok_weaker c.put_complete.result
    (λ put. record { task = option_map task_of c.in-Ok.task; taken = c.in-Ok.ensures.taken; put = put })
    c.put_complete.ensures.task
