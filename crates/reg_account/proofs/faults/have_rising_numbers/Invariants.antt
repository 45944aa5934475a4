use Rattle.std.proofs.Common.{◌≡◌, drop}
use Rattle.reg_base.specs.Rising.{is_rising_from}
use Rattle.reg_account.specs.Rows.{row_numbers}
use Rattle.reg_account.proofs.faults.have_rising_numbers.Given as goal

abbrev pub invariant-loop-row : goal.invariant-loop-row
invariant-loop-row l = is_rising_from 0 (row_numbers l.rows)
    ≡ is_rising_from l.low (row_numbers (drop l.row-index l.rows))
