use Rattle.std.proofs.Common.{ℕ, ◌<◌, get_or}
use Rattle.reg_account.specs.declared.rows.RetirementRow.{RetirementRow}
use Rattle.reg_account.specs.Rows.{RowIsInRange}
use Rattle.reg_account.proofs.ranges.know_rows.Given as goal

abbrev pub invariant-loop-row : goal.invariant-loop-row
invariant-loop-row l = (k : ℕ) (d : RetirementRow) → k < l.row-index → RowIsInRange (get_or l.rows k d)
