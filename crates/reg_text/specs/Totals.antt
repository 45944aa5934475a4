-- The text of the totals of a book.
use Rattle.std.specs.Prelude.{List, [], ◌∷◌, codes}
use Rattle.reg_base.specs.declared.kinds.AllowanceKind.{AllowanceKind}
use Rattle.reg_base.specs.declared.kinds.AllowanceKind.TheVariants.{General, Aviation}
use Rattle.reg_book.specs.Book.{BookValue}
use Rattle.reg_book.specs.declared.totals.Totals.{Totals}
use Rattle.reg_book.specs.declared.totals.BothTotals.{BothTotals}
use Rattle.reg_text.specs.TextRows.{TextRow}
use Rattle.reg_text.specs.Numbers.{number}
use Rattle.reg_base.specs.Words.{allowance_kind_name}
use Rattle.reg_text.specs.Spelling.{end_row}
use Rattle.reg_text.specs.Report.{totals_row}

-- the totals of each kind, and the row end
abbrev pub totals_rows : BookValue → List TextRow
totals_rows book = totals_row book General ∷ totals_row book Aviation ∷ end_row ∷ []

-- the same of totals that were added up
abbrev pub row_of_totals : AllowanceKind → Totals → TextRow
row_of_totals kind totals =
    codes "totals"
    ∷ allowance_kind_name kind ∷ number totals.held ∷ number totals.surrendered ∷ number totals.deleted ∷ []

abbrev pub rows_of_totals : BothTotals → List TextRow
rows_of_totals both = row_of_totals General both.general ∷ row_of_totals Aviation both.aviation ∷ end_row ∷ []
