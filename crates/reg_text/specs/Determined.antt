-- The text of the compliance figures of a book: the determined figures of each account, year by year.
use Rattle.std.specs.Prelude.{ℕ, List, [], ◌∷◌, ◌++◌, map, codes}
use Rattle.std.specs.List.{flat_map}
use Rattle.reg_account.specs.declared.years.Figure.{Figure}
use Rattle.reg_account.specs.Account.{AccountValue}
use Rattle.reg_book.specs.Book.{BookValue}
use Rattle.reg_text.specs.TextRows.{TextRow}
use Rattle.reg_text.specs.Numbers.{number}
use Rattle.reg_text.specs.Signed.{signed}
use Rattle.reg_text.specs.Spelling.{end_row}

-- determined,NO,YEAR,FIGURE
abbrev pub determined_row : ℕ → Figure → TextRow
determined_row account figure = codes "determined" ∷ number account ∷ number figure.year ∷ signed figure.tonnes ∷ []

-- the determined figures of an account, by rising year
abbrev pub determined_rows : AccountValue → List TextRow
determined_rows a = map (determined_row a.number) a.figures

-- those of all accounts, by rising number, and the row end
abbrev pub figures_rows : BookValue → List TextRow
figures_rows book = flat_map determined_rows book.accounts ++ end_row ∷ []
