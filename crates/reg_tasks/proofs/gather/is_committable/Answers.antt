use Rattle.std.proofs.Common.{ap, sym, ◌∙◌}
use Rattle.std.specs.Prelude.{not}
use Rattle.std.proofs.lemmas.Bool.{not-true}
use Rattle.reg_account.proofs.lemmas.Rows.{none_ahead}
use Rattle.reg_tasks.proofs.lemmas.Gathering.{behind_not_ahead}
use Rattle.reg_tasks.proofs.gather.is_committable.Goals as goal

pub returns-then-is_listed : goal.returns-then-is_listed
returns-then-is_listed c = (
  λ t. record {
    listed = c.is_listed.ensures.0 c.if-is_listed.true;
    behind = none_ahead c.args.next c.args.account.now.rows (sym c.has_row_ahead.ensures
        ∙ not-true c.has_row_ahead.result t);
  },
  λ k. ap not c.has_row_ahead.ensures ∙ behind_not_ahead c.args.next c.args.account.now k.behind,
)
