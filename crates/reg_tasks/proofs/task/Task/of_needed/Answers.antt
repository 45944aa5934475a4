use Rattle.reg_book.specs.Day.{day_of}
use Rattle.reg_tasks.proofs.Complete.{complete_from}
use Rattle.reg_tasks.proofs.task.Task.of_needed.Goals as goal

pub invariant_of-result : goal.invariant_of-result
invariant_of-result g c = record {
  complete = λ d e.
      complete_from c.tails_are_last_touchers.ensures c.last_toucher_is_last.ensures
      (day_of c.args.context.now.book.now c.args.context.now.rules.now c.args.context.now.batch.now)
      c.args.context.now.plan
      c.args.context.now.planned c.args.place _ c.requires.place c.requires.needed d
      (c.args.context.now.named d e);
}
