-- Rows as csv gives them, which calls them records: lists of fields.
use Rattle.std.specs.Prelude.{ℕ, List, [], slice_index_or}
-- a row's fields, each a list of bytes
pub use Rattle.reg_cuts.specs.Rows.{TextRow}

-- the field at a column, counted from 0, or the empty field if there is no such column
abbrev pub field : TextRow → ℕ → List ℕ
field r column = slice_index_or r column []
