use Rattle.std.proofs.Common.{sym, ◌∙◌}
use Rattle.test_calls.proofs.Behind.{below}
use Rattle.test_calls.proofs.accounts.is_later.Goals as goal

pub returns : goal.returns
returns c later = below c.args.number c.args.account.now.rows (sym c.has_rows_below.ensures ∙ later)
