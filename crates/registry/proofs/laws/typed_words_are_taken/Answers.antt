use Rattle.registry.proofs.Typed.{figures_taken, plan_taken, settle_taken, statement_taken, totals_taken, workers_taken}
use Rattle.registry.proofs.laws.typed_words_are_taken.Goals as goal

pub returns : goal.returns
returns c = record {
  settle = settle_taken;
  workers = workers_taken;
  plan = plan_taken;
  statement = statement_taken;
  figures = figures_taken;
  totals = totals_taken;
}
