-- A text that is written has as many bytes as its rows take.
use Rattle.std.proofs.Common.{◌≡◌, ℕ, ◌+◌, false, List, [], ◌∷◌, ◌++◌, length, refl, arith, length-append}
use Rattle.std.specs.List.{AllByRecursion}
use Rattle.reg_facts.proofs.lemmas.Lists.{all-append}
use Rattle.csv.specs.Writing.{row_text}
use Rattle.reg_rules.specs.declared.reply.LogRow.{LogRow}
use Rattle.reg_account.specs.Account.{AccountValue}
use Rattle.reg_text.specs.declared.reading.tag.Tag.TheVariants as tag
use Rattle.reg_text.specs.Grammar.{row_text as tagged}
use Rattle.reg_text.specs.Totals.{totals_rows}
use Rattle.reg_text.proofs.Names.{BookValue, IsPlain, Said, Tag, TextRow, account_block, default_writer, each_row}
use Rattle.reg_text.proofs.Names.{is_blank, list_items, list_tags, lists_of, log_row, log_rows, report_rows, text_of}
use Rattle.reg_text.proofs.Names.{with_commas, written_book}
use Rattle.reg_text.proofs.ListFacts.{all-both, all-flat_map, all-map}
use Rattle.reg_text.proofs.RowFacts.{row-whole}
use Rattle.reg_text.proofs.WrittenTexts.{report-written}
use Rattle.reg_text.proofs.TextSizes.{row_size, rows_size}

commas-size : (fields : TextRow) (t : List ℕ) → length (with_commas fields t) ≡ row_size fields + length t
commas-size [] t = omega arith
commas-size (f ∷ fs) t = omega (arith, length-append f (with_commas fs t), commas-size fs t)

-- a row that shows a byte
abbrev IsFilled : TextRow → Type 0
IsFilled r = is_blank default_writer r ≡ false

abbrev Plain : TextRow → Type 0
Plain r = AllByRecursion IsPlain r

abbrev IsAsLong : TextRow → Type 0
IsAsLong r = length (row_text default_writer r) ≡ row_size r

as-long : (r : TextRow) → IsFilled r → Plain r → IsAsLong r
unfolding is_blank
as-long [] filled plain = absurd cc
as-long (f ∷ fs) filled plain = rw (row-whole f fs filled plain)
    (omega (arith, length-append f (with_commas fs (10 ∷ [])), commas-size fs (10 ∷ [])))

all-as-long : (rows : List TextRow) → AllByRecursion IsAsLong rows → length (text_of rows) ≡ rows_size rows
all-as-long [] h = refl
all-as-long (r ∷ rows) h =
    omega (arith, h.0, all-as-long rows h.1, length-append (row_text default_writer r) (text_of rows))

filled-tag : (t : Tag) (x : Said t) → IsFilled (tagged t x)
unfolding is_blank
filled-tag tag.Format x = refl
filled-tag t x = refl

filled-log : (r : LogRow) → IsFilled (log_row r)
unfolding is_blank
filled-log r = refl

filled-block : (v : AccountValue) → AllByRecursion IsFilled (account_block v)
filled-block v = (
  filled-tag tag.Account _,
  all-flat_map IsFilled (λ (t : Tag). each_row t (list_items t (lists_of v)))
      (λ t. all-flat_map IsFilled (λ (x : Said t). tagged t x ∷ []) (λ x. (filled-tag t x, tt))
      (list_items t (lists_of v)))
      list_tags,
)

filled-book : (b : BookValue) → AllByRecursion IsFilled (written_book b)
unfolding is_blank
filled-book b = (refl, all-flat_map IsFilled account_block filled-block b.accounts)

filled-totals : (b : BookValue) → AllByRecursion IsFilled (totals_rows b)
unfolding is_blank
filled-totals b = (refl, (refl, (filled-tag tag.End tt, tt)))

filled-report : (b : BookValue) (rows : List LogRow) → AllByRecursion IsFilled (report_rows b rows)
filled-report b rows = all-append IsFilled (log_rows rows ++ written_book b) (totals_rows b)
    (all-append IsFilled (log_rows rows) (written_book b) (all-map IsFilled log_row filled-log rows) (filled-book b))
    (filled-totals b)

-- the report has the bytes of its rows
pub report-size : (b : BookValue) (rows : List LogRow) → length (text_of (report_rows b rows))
    ≡ rows_size (report_rows b rows)
report-size b rows = all-as-long (report_rows b rows)
    (all-both IsFilled Plain IsAsLong as-long (report_rows b rows) (filled-report b rows) (report-written b rows).plain)
