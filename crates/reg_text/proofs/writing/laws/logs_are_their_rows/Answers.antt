use Rattle.reg_text.proofs.SingleRows.{logs-rows}
use Rattle.reg_text.proofs.writing.laws.logs_are_their_rows.Goals as goal

pub returns : goal.returns
returns c = logs-rows
