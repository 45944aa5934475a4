-- A report takes at most eight times the bytes of its day text.
use Rattle.std.proofs.Common.{◌≡◌, ℕ, ◌+◌, ◌*◌, ◌<◌, ◌≤◌, List, [], ◌∷◌, ◌++◌, get_or, take, length, Option, Some, None}
use Rattle.std.proofs.Common.{refl, sym, ap, subst, arith}
use Rattle.std.specs.Prelude.{sum_by}
use Rattle.std.specs.List.{AllByRecursion, flat_map}
use Rattle.std.proofs.lemmas.List.{take_all}
use Rattle.std.proofs.lemmas.List.Elements.{recursion_from_All}
use Rattle.std.proofs.lemmas.List.Sums.{sum_by-le}
use Rattle.reg_base.specs.declared.limits.TheConstants.{MOST_RECORD}
use Rattle.reg_base.specs.declared.kinds.AllowanceKind.{AllowanceKind}
use Rattle.reg_base.specs.declared.kinds.AllowanceKind.TheVariants.{General, Aviation}
use Rattle.reg_base.specs.declared.kinds.Retirement.TheVariants.{Surrendered, Deleted}
use Rattle.reg_base.specs.declared.refusals.Refusal.{Refusal}
use Rattle.reg_base.specs.declared.instruction.Instruction.{Instruction}
use Rattle.reg_base.specs.Footprint.{EachFootprintIsSound}
use Rattle.reg_base.specs.Instructions.{IsInstruction}
use Rattle.reg_base.specs.Acts.{parties}
use Rattle.reg_base.specs.Numbers.{IsAccountNo, IsDayNo}
use Rattle.reg_rules.specs.declared.reply.LogRow.{LogRow}
use Rattle.reg_base.specs.Rules.{AreRules}
use Rattle.reg_account.specs.Account.{AccountValue, IsAccount, held_by, retired_by}
use Rattle.reg_rules.specs.State.{Setting, State}
use Rattle.reg_rules.specs.Checks.{refusal}
use Rattle.reg_rules.specs.Effect.{effect}
use Rattle.reg_rules.specs.Laws.{IsReady, StaysReadyInStep, StepLaws}
use Rattle.reg_rules.specs.Step.{row_of, step, step_by}
use Rattle.reg_book.specs.Book.{BookValue, IsBook, total_held, total_retired}
use Rattle.reg_book.specs.Fold.{rows_of, state_after}
use Rattle.reg_book.specs.Chains.{book_after}
use Rattle.reg_book.specs.Day.{DayValue, closing_state, log_of, setting}
use Rattle.reg_book.specs.Laws.{ClosingIsABook, CommittedIsClosing, StaysReady}
use Rattle.reg_text.specs.declared.reading.tag.Tag.TheVariants as tag
use Rattle.reg_text.specs.Acts.{IsShared}
use Rattle.reg_text.specs.Grammar.{row_text as tagged}
use Rattle.reg_text.specs.Most.{NoReportIsLonger}
use Rattle.reg_text.specs.Totals.{totals_rows}
use Rattle.reg_text.proofs.Names.{CanBeSaid, Section, Version, account_block, all_rows, day_sections}
use Rattle.reg_text.proofs.Names.{day_text, each_row, log_row, log_rows, report_rows}
use Rattle.reg_text.proofs.Names.{section_rows, totals_row, written_book}
use Rattle.reg_text.proofs.TextSizes.{row_size, rows_size, rows_size-append, text-size}
use Rattle.reg_text.proofs.FieldSizes.{date-size, kind-size, next-most, sum-most}
use Rattle.reg_text.proofs.RowSizes.{report-size}
use Rattle.reg_text.proofs.BookSizes.{blocks-least, blocks-most, blocks_most}
use Rattle.reg_text.proofs.StepSizes.{all-grown}
use Rattle.reg_text.proofs.LogSizes.{done-row, refused-row}

-- ---- the log and the accounts, instruction by instruction

module _ (stays : StaysReadyInStep) (sound : EachFootprintIsSound) (c : Setting) (ruled : AreRules c.rules) (day-is :
    IsDayNo c.day) where
  -- one instruction, whatever is replied
  step-size : (number : ℕ) (s : State) (i : Instruction) (r : Option Refusal) → number ≤ MOST_RECORD
      → IsReady number s → IsReady (number + 1) (step_by c s number i r).0 → IsInstruction i → IsShared i.act
      → row_size (log_row (row_of c number i (step_by c s number i r).1)) + blocks_most (step_by c s number i r).0
      ≤ blocks_most s + 8 * row_size (tagged tag.Do i)
  step-size number s i (Some q) last ready after is shared = omega (arith, refused-row c number i q last)
  step-size number s i None last ready after is shared = omega (
    arith,
    all-grown c number i.act s ready.once,
    done-row sound c number (effect c s number i) i last (recursion_from_All IsAccount (effect c s number i) after.fit)
        (recursion_from_All IsAccountNo (parties i.act) is.each_account) shared,
  )

  fold-size : (number : ℕ) (s : State) (is : List Instruction) → 1 ≤ number → number + length is ≤ MOST_RECORD + 1
      → IsReady number s → AllByRecursion IsInstruction is → AllByRecursion (λ (i : Instruction). IsShared i.act) is
      → rows_size (log_rows (rows_of c s number is)) + blocks_most (state_after c s number is)
      ≤ blocks_most s + 8 * rows_size (each_row tag.Do is)
  fold-size number s [] from last ready each shared = omega arith
  fold-size number s (i ∷ is) from last ready each shared =
      let small : number ≤ MOST_RECORD = omega arith in
      let after = stays c s number i ruled day-is (record { low = from; high = small }) each.0 ready in
      omega (
        arith,
        step-size number s i (refusal c s i) small ready after each.0 shared.0,
        fold-size (number + 1) (step c s number i).0 is (omega arith) (omega (arith, last)) after each.1 shared.1,
      )

-- ---- the other rows of a report

total-most : (b : BookValue) (f : AccountValue → ℕ) → IsBook b
    → ((v : AccountValue) → IsAccount v → f v ≤ 1_000_000_000_000_000)
    → sum_by f b.accounts < 1_000_000_000_000_000_000_000
total-most b f h each = omega (
  arith,
  sum_by-le f 1_000_000_000_000_000 b.accounts
      (λ k d lt. each (get_or b.accounts k d) (h.within_limits k d lt)),
  h.few,
)

held-each : (kind : AllowanceKind) (v : AccountValue) → IsAccount v → held_by v kind ≤ 1_000_000_000_000_000
held-each General v h = h.holdings_fit.general
held-each Aviation v h = h.holdings_fit.aviation

totals-most : (b : BookValue) (kind : AllowanceKind) → IsBook b → row_size (totals_row b kind) ≤ 82
totals-most b kind h = omega (
  arith,
  (kind-size kind).high,
  sum-most (total_held b kind) (total-most b (λ v. held_by v kind) h (held-each kind)),
  sum-most (total_retired b Surrendered kind)
      (total-most b (λ v. retired_by v Surrendered kind) h (λ v k. k.retired_fits.at Surrendered kind)),
  sum-most (total_retired b Deleted kind)
      (total-most b (λ v. retired_by v Deleted kind) h (λ v k. k.retired_fits.at Deleted kind)),
)

-- ---- the rows of a day text

abbrev sections_size : List Section → ℕ
sections_size [] = 0
sections_size (s ∷ ss) = rows_size (section_rows s) + sections_size ss

sections-size : (ss : List Section) → rows_size (all_rows ss) ≡ sections_size ss
sections-size [] = refl
sections-size (s ∷ ss) = omega (arith, rows_size-append (section_rows s) (all_rows ss), sections-size ss)

-- a day text has a row for its version, one for its date and the row `end`, its accounts and its instructions
day-least : (version : Version) (day : DayValue)
    → 28 + rows_size (flat_map account_block day.book.accounts) + rows_size (each_row tag.Do day.batch.instructions)
    ≤ rows_size (day_text version day)
day-least version day = omega (arith, sections-size (day_sections version day), date-size day.batch.day)

-- ---- the whole report

-- the rows of a report, by its log and its accounts
rows-most : (b : BookValue) (rows : List LogRow) → IsBook b
    → rows_size (report_rows b rows) ≤ 190 + rows_size (log_rows rows) + blocks_most b.accounts
rows-most b rows h = omega (
  arith,
  rows_size-append (log_rows rows ++ written_book b) (totals_rows b),
  rows_size-append (log_rows rows) (written_book b),
  totals-most b General h,
  totals-most b Aviation h,
  blocks-most b.accounts (recursion_from_All IsAccount b.accounts h.within_limits),
  next-most b.next h.next.to_the_end,
)

module _ (laws : StepLaws) (sound : EachFootprintIsSound) (ready : StaysReady) (closing : CommittedIsClosing) (book :
    ClosingIsABook) where
  -- what a day adds
  day-most : (day : DayValue) → CanBeSaid day
      → rows_size (log_rows (log_of day)) + blocks_most (closing_state day)
      ≤ blocks_most day.book.accounts + 8 * rows_size (each_row tag.Do day.batch.instructions)
  day-most day said =
      let instructions = day.batch.instructions in
      let whole : take (length instructions) instructions ≡ instructions =
      take_all (length instructions) instructions (omega arith) in
      let first : day.batch.base + 1 + 0 ≡ day.batch.base + 1 = omega arith in
      rw whole (fold-size laws.stays_ready sound (setting day) said.day.rules said.day.batch.settlement_day
      (day.batch.base + 1) day.book.accounts instructions (omega arith)
      (omega (arith, said.day.batch.numbered))
      (subst (λ (n : ℕ). IsReady n day.book.accounts) first (ready day said.day 0 (omega arith)))
      (recursion_from_All IsInstruction instructions said.day.batch.each)
      (recursion_from_All (λ (i : Instruction). IsShared i.act) instructions said.shares))

  pub no-longer : NoReportIsLonger
  no-longer bytes day reading =
      let said = reading.fits in
      let same = closing day said.day.book said.day.follows in
      omega (
        arith,
        report-size (book_after day) (log_of day),
        rows-most (book_after day) (log_of day) (subst IsBook (sym same) (book day said.day).book),
        ap (λ (b : BookValue). blocks_most b.accounts) same,
        day-most day said,
        blocks-least day.book.accounts,
        day-least reading.version day,
        ap rows_size reading.spelled,
        text-size bytes,
      )
