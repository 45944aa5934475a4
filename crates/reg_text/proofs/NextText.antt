-- The text of the next day up to its instructions: with these behind it, it is read as the day that goes on.
use Rattle.std.proofs.Common.{◌≡◌, ◌∙◌, ℕ, ◌≤◌, List, ◌++◌, map, length, Ok, sym, ap, subst, arith}
use Rattle.std.specs.Prelude.{All}
use Rattle.reg_base.specs.Rising.{IsRising}
use Rattle.reg_base.specs.Rules.{RulesValue, AreRules}
use Rattle.reg_book.specs.Book.{BookValue}
use Rattle.reg_book.specs.Chains.{book_after}
use Rattle.reg_book.specs.Day.{DayValue}
use Rattle.reg_cuts.specs.Rows.{rows_in_text}
use Rattle.reg_text.specs.Faults.{day_of_rows}
use Rattle.reg_text.specs.Grammar.{pair_index}
use Rattle.reg_text.specs.NextDays.{IsNextDay, ReportsAreReadOn}
use Rattle.reg_text.specs.NextText.{front_text, next_text, GoesOn, NextTextsAreReadOn}
use Rattle.reg_text.specs.ReadAgain.{accounts_text, IsClosingText, BookIsReadAgain}
use Rattle.reg_text.specs.Reading.{CanBeSaid, IsPair, IsReading, IsVersionOf}
use Rattle.reg_text.specs.Report.{text_of}
use Rattle.reg_text.specs.Sections.{all_rows}
use Rattle.reg_text.specs.Spelling.{heading}
use Rattle.reg_text.specs.declared.reading.scope.Version.{Version}
use Rattle.reg_text.specs.declared.reading.scope.Version.TheVariants.{One, Two}
use Rattle.reg_text.proofs.NextDays.{report-parts}

is-known : (version : Version) (before after : DayValue) → after.rules ≡ before.rules → IsVersionOf before version
    → IsVersionOf after version
is-known One before after same known = ap (λ (r : RulesValue). length r.periods) same ∙ known
is-known Two before after same known = tt

next-day : (before after : DayValue) → CanBeSaid before → GoesOn before after → IsNextDay before after
next-day before after said on =
    let periods : length after.rules.periods ≡ length before.rules.periods =
    ap (λ (r : RulesValue). length r.periods) on.rules in
    record {
      book = on.book;
      rules = subst AreRules (sym on.rules) said.day.rules;
      batch = on.batch;
      begins = on.begins;
      periods = omega (arith, periods);
      shares = on.shares;
      pairs = subst (λ (r : RulesValue). All IsPair r.surrender) (sym on.rules) said.pairs;
      pairs_rise = subst (λ (r : RulesValue). IsRising (map pair_index r.surrender)) (sym on.rules) said.pairs_rise;
    }

module _ (again : BookIsReadAgain) (reports : ReportsAreReadOn) where
  read-on : (bytes back : List ℕ) (before after : DayValue) (reading : IsReading (rows_in_text bytes) before)
      → GoesOn before after → IsClosingText after back
      → day_of_rows (rows_in_text (next_text reading.version before after.batch.day ++ back)) ≡ Ok after
  read-on bytes back before after reading on closes =
      let said = reports.can_be_said before after reading.fits (next-day before after reading.fits on) in
      let day = after.batch.day in
      let same : next_text reading.version before day ≡ front_text reading.version after.rules after.book day =
      ap (λ (r : RulesValue). front_text reading.version r (book_after before) day) (sym on.rules)
      ∙ ap (λ (b : BookValue). front_text reading.version after.rules b day) (sym on.book) in
      ap (λ (t : List ℕ). day_of_rows (rows_in_text (t ++ back))) same
      ∙ again.again reading.version after (text_of (all_rows (heading reading.version after)))
      (accounts_text after.book) back (is-known reading.version before after on.rules reading.is_known) said
      (again.has_front reading.version after) (again.has_blocks after.book) closes

  pub next-texts-read : NextTextsAreReadOn
  next-texts-read = record { stands = report-parts; read_on = read-on }
