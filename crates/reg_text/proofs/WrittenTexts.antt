-- No field of a written text needs quotes, and csv splits each text into its rows again.
use Rattle.std.proofs.Common.{ℕ, List, [], ◌∷◌, ◌++◌, None, refl}
use Rattle.std.specs.List.{AllByRecursion, flat_map}
use Rattle.reg_facts.proofs.lemmas.Lists.{all-append, all-weaker}
use Rattle.reg_base.specs.declared.kinds.AllowanceKind.TheVariants.{General, Aviation}
use Rattle.reg_plan.specs.declared.arrow.Arrow.{Arrow}
use Rattle.reg_plan.specs.Plans.{PlanValue, inward, level_at}
use Rattle.reg_rules.specs.declared.reply.HeldNow.{HeldNow}
use Rattle.reg_rules.specs.declared.reply.LogRow.{LogRow}
use Rattle.reg_rules.specs.Step.{held_now}
use Rattle.reg_account.specs.Account.{AccountValue}
use Rattle.reg_book.specs.Book.{BookValue, directory_of}
use Rattle.reg_text.specs.TextRows.{TextRow}
use Rattle.reg_text.specs.Sections.{account_block}
use Rattle.reg_text.specs.Spelling.{end_row}
use Rattle.reg_text.specs.Log.{log_row}
use Rattle.reg_text.specs.Report.{log_rows, written_book, report_rows}
use Rattle.reg_text.specs.Totals.{totals_rows}
use Rattle.reg_text.specs.Determined.{determined_row, determined_rows, figures_rows}
use Rattle.reg_text.specs.PlanText.{arrow_row, place_rows, plan_rows}
use Rattle.reg_text.specs.Statement.{closing_held, closing_row, opening_row, rows_about, statement_of}
use Rattle.reg_text.specs.Written.{AreWritten, EachBookIsWritten, EachReportIsWritten, EachPlanIsWritten}
use Rattle.reg_text.specs.Written.{EachStatementIsWritten, AllFiguresAreWritten, AllTotalsAreWritten}
use Rattle.reg_text.proofs.ListFacts.{all-map, all-flat_map}
use Rattle.reg_text.proofs.PlainFacts.{plain-decimal, plain-signed}
use Rattle.reg_text.proofs.PlainRows.{IsWritten, Plain, plain-holding, plain-log_row, plain-totals_row, splits-again}
use Rattle.reg_text.proofs.PlainRows.{written-item}

are-written : (rows : List TextRow) → AllByRecursion IsWritten rows → AreWritten rows
are-written rows h = record { plain = all-weaker IsWritten Plain (λ r w. w.1) rows h; split = splits-again rows h }

-- ---- rows of which several texts are made

end-written : IsWritten end_row
end-written = (tt, (refl, tt))

log-written : (rows : List LogRow) → AllByRecursion IsWritten (log_rows rows)
log-written rows = all-map IsWritten log_row (λ r. (tt, plain-log_row r)) rows

accounts-written : (b : BookValue) → AllByRecursion IsWritten (written_book b)
accounts-written b = (
  (tt, (refl, (plain-decimal b.next, tt))),
  all-flat_map IsWritten account_block (written-item None) b.accounts,
)

kinds-written : (b : BookValue) → AllByRecursion IsWritten (totals_rows b)
kinds-written b = ((tt, plain-totals_row b General), ((tt, plain-totals_row b Aviation), (end-written, tt)))

-- ---- rows of one text

years-written : (a : AccountValue) → AllByRecursion IsWritten (determined_rows a)
years-written a = all-map IsWritten (determined_row a.number)
    (λ f. (tt, (refl, (plain-decimal a.number, (plain-decimal f.year, (plain-signed f.tonnes, tt)))))) a.figures

arrow-written : (arrow : Arrow) → IsWritten (arrow_row arrow)
arrow-written arrow = (
  tt,
  (refl, (plain-decimal arrow.from, (plain-decimal arrow.to, (plain-decimal arrow.account, tt)))),
)

place-written : (plan : PlanValue) (place : ℕ) → AllByRecursion IsWritten (place_rows plan place)
place-written plan place = (
  (tt, (refl, (plain-decimal place, (plain-decimal (level_at plan.levels place), tt)))),
  all-map IsWritten arrow_row arrow-written (inward plan.arrows place),
)

opening-written : (h : HeldNow) → IsWritten (opening_row h)
opening-written h = (tt, (refl, plain-holding h))

closing-written : (h : HeldNow) → IsWritten (closing_row h)
closing-written h = (tt, (refl, plain-holding h))

-- ---- the texts

pub book-written : EachBookIsWritten
book-written b = are-written (written_book b) (accounts-written b)

pub report-written : EachReportIsWritten
report-written b rows = are-written (report_rows b rows)
    (all-append IsWritten (log_rows rows ++ written_book b) (totals_rows b)
    (all-append IsWritten (log_rows rows) (written_book b) (log-written rows) (accounts-written b))
    (kinds-written b))

pub plan-written : EachPlanIsWritten
plan-written plan = are-written (plan_rows plan)
    (all-append IsWritten (flat_map (place_rows plan) _) (end_row ∷ [])
    (all-flat_map IsWritten (place_rows plan) (place-written plan) _) (end-written, tt))

pub statement-written : EachStatementIsWritten
statement-written b rows account =
    let opening = held_now b.accounts account in
    let about = rows_about (directory_of b.accounts) account rows in
    let closing = closing_held opening about in
    let last : AllByRecursion IsWritten (closing_row closing ∷ end_row ∷ []) =
    (closing-written closing, (end-written, tt)) in
    are-written (statement_of b rows account) (
      opening-written opening,
      all-append IsWritten (log_rows about) (closing_row closing ∷ end_row ∷ []) (log-written about) last,
    )

pub figures-written : AllFiguresAreWritten
figures-written b = are-written (figures_rows b)
    (all-append IsWritten (flat_map determined_rows b.accounts) (end_row ∷ [])
    (all-flat_map IsWritten determined_rows years-written b.accounts) (end-written, tt))

pub totals-written : AllTotalsAreWritten
totals-written b = are-written (totals_rows b) (kinds-written b)
