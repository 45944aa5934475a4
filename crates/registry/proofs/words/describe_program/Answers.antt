use Rattle.std.proofs.lemmas.Result.{IfOk-weaker}
use Rattle.registry.proofs.Described.{added}
use Rattle.registry.proofs.words.describe_program.Goals as goal

pub returns : goal.returns
returns c = IfOk-weaker c.subcommand-5.result _ _ (λ described adds.
    added _ _ described _ _ (added _ _ _ _ _ (added _ _ _ _ _ (added _ _ _ _ _ (added _ _ _ _ _
    c.in_ok-describe_registry.ensures.app
    c.in_ok-describe_settle.ensures c.in_ok-subcommand.ensures)
    c.describe_plan.ensures c.in_ok-subcommand-2.ensures)
    c.in_ok-describe_statement.ensures c.in_ok-subcommand-3.ensures)
    c.describe_figures.ensures c.in_ok-subcommand-4.ensures)
    c.describe_totals.ensures adds) c.subcommand-5.ensures
