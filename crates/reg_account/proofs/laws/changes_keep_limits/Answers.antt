use Rattle.reg_account.proofs.Changes.{changes-keep-limits}
use Rattle.reg_account.proofs.laws.changes_keep_limits.Goals as goal

pub returns : goal.returns
returns c = changes-keep-limits
