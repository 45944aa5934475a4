-- Indexes of rows.
use Rattle.std.specs.Prelude.{◌≡◌, ℕ, ◌<◌, List, length, slice_index}
use Rattle.reg_account.specs.declared.rows.RetirementRow.{RetirementRow}
use Rattle.reg_account.specs.Rows.{row_numbers}

-- the row at this index has this number
pub record RowStandsAt (rows : List RetirementRow) (index number : ℕ) : Type 0 where
  pub within : index < length rows
  pub has_number : slice_index (row_numbers rows) index ≡ number
