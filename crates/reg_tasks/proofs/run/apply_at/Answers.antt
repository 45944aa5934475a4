use Rattle.std.proofs.Common.{◌≡◌, rules, ap, ◌∙◌}
use Rattle.reg_base.specs.Batch.{BatchValue}
use Rattle.reg_rules.specs.State.{Setting}
use Rattle.reg_rules.specs.Step.{step}
use Rattle.reg_book.specs.Book.{BookValue, directory_of}
use Rattle.reg_book.specs.Day.{day_of, setting}
use Rattle.reg_tasks.proofs.Running.{ran_at}
use Rattle.reg_tasks.proofs.run.apply_at.Goals as goal

pub returns-clause-ok : goal.returns-clause-ok
returns-clause-ok g c =
    let day = day_of c.args.context.now.book.now c.args.context.now.rules.now c.args.context.now.batch.now in
    let number = c.number_of-number.result in
    let lent : Setting = record {
      rules = c.rules.result.now;
      day = c.day.result;
      directory = c.directory.result.now;
    } in
    let same : lent ≡ setting day = λ i. record {
      rules = c.rules.ensures i;
      day = (c.day.ensures ∙ ap (λ (b : BatchValue). b.day) c.batch-batch.ensures) i;
      directory = (c.directory.ensures ∙ ap (λ (b : BookValue). directory_of b.accounts) c.book.ensures) i;
    } in
    ran_at day c.args.place number c.args.own.now c.execute.new.accounts c.at-instruction.result.now c.in_ok-reply.reply
    c.log_row.result
    c.requires.place.0 (search rules) c.number_of-number.ensures
    ((c.in_ok-reply.ensures {u = tt}).ok
    ∙ ap (λ (s : Setting). step s c.args.own.now number c.at-instruction.result.now) same) (search rules)
