-- The report of a day, put into the text of the next day, is read as the book that the day left.
use Rattle.std.proofs.Common.{◌≡◌, ℕ, ◌+◌, ◌≤◌, Bool, true, false, cond, eqb, List, [], ◌∷◌, ◌++◌, map, take, length}
use Rattle.std.proofs.Common.{Option, Some, None, Result, Ok, Err, refl, sym, ap, subst, ◌∙◌, arith, append_assoc}
use Rattle.std.specs.Prelude.{ℤ}
use Rattle.std.specs.Option.{option_map_or}
use Rattle.std.specs.List.{AllByRecursion}
use Rattle.std.proofs.lemmas.List.{append_cancel_left, append_cancel_right}
use Rattle.std.proofs.lemmas.List.Elements.{All-from_recursion, recursion_from_All}
use Rattle.reg_facts.proofs.lemmas.Lists.{all-push}
use Rattle.reg_base.specs.declared.kinds.AllowanceKind.{AllowanceKind}
use Rattle.reg_base.specs.declared.kinds.Retirement.{Retirement}
use Rattle.reg_base.specs.declared.kinds.Retirement.TheVariants.{Surrendered, Deleted}
use Rattle.reg_base.specs.declared.movement.Change.{Change}
use Rattle.reg_base.specs.declared.movement.Change.TheVariants.{Debit, Credit, Retire, Unretire, Trust, Untrust}
use Rattle.reg_base.specs.declared.movement.Change.TheVariants.{SetStatus, SetEmissions, Determine}
use Rattle.reg_base.specs.declared.refusals.Refusal.{Refusal}
use Rattle.reg_base.specs.declared.shares.Share.{Share}
use Rattle.reg_base.specs.declared.act.Act.{Act}
use Rattle.reg_base.specs.declared.instruction.Instruction.{Instruction}
use Rattle.reg_base.specs.Acts.{movement_of, change_of, first, shares}
use Rattle.reg_account.specs.declared.figure.FigureFault.{FigureFault}
use Rattle.reg_account.specs.declared.rows.Fate.{Fate}
use Rattle.reg_account.specs.declared.rows.Fate.TheVariants as fate
use Rattle.reg_account.specs.declared.rows.RetirementRow.{RetirementRow}
use Rattle.reg_account.specs.declared.corrections.Correction.{Correction}
use Rattle.reg_account.specs.Rows.{row_in, with_mark}
use Rattle.reg_account.specs.Account.{AccountValue, unretired_row, credited}
use Rattle.reg_account.specs.Figure.{figure_of}
use Rattle.reg_rules.specs.State.{State, Setting}
use Rattle.reg_rules.specs.Trust.{effective_day}
use Rattle.reg_rules.specs.Checks.{refusal}
use Rattle.reg_rules.specs.Effect.{fate_of, new_row, assessed, listed_from, made_by, share_of, given, changed_by}
use Rattle.reg_rules.specs.Step.{step, step_by}
use Rattle.reg_book.specs.Book.{BookValue, IsBook}
use Rattle.reg_book.specs.Fold.{state_after}
use Rattle.reg_book.specs.Day.{DayValue, setting, log_of}
use Rattle.reg_book.specs.Laws.{CommittedIsClosing}
use Rattle.reg_book.specs.Chains.{book_after, IsChain, ChainLeavesABook}
use Rattle.reg_text.specs.Sections.{FateIsOf, IsOfPeriods}
use Rattle.reg_text.specs.Reading.{CanBeSaid}
use Rattle.reg_text.specs.Report.{text_of, log_rows, written_book}
use Rattle.reg_cuts.specs.Rows.{rows_in_text}
use Rattle.reg_text.specs.Faults.{day_of_rows}
use Rattle.reg_text.specs.ReadAgain.{accounts_text, book_line, IsBlocks, BookIsReadAgain}
use Rattle.reg_text.specs.Totals.{totals_rows}
use Rattle.reg_text.specs.NextDays.{StandInReport, IsTextOf, AreTexts, IsNextDay, GoOn, ReportsAreReadOn}
use Rattle.reg_text.proofs.ReadAgain.{text-append, book-text-parts}

-- ---- a day speaks of the periods of its rules alone

-- these rows are for so many periods
abbrev pub AreOfPeriods : ℕ → List RetirementRow → Type 0
AreOfPeriods count rows = AllByRecursion (λ row. FateIsOf count row.fate) rows

marked-of : (count number : ℕ) (rows : List RetirementRow) → AreOfPeriods count rows
    → AreOfPeriods count (with_mark number rows)
marked-of count number [] own = tt
marked-of count number (row ∷ rows) own = (by (eqb row.number number), marked-of count number rows own.1)
  where
    by : (b : Bool) → FateIsOf count (cond b (record row { reversed = true }) row).fate
    by true = own.0
    by false = own.0

unretired-of : (count number : ℕ) (v : AccountValue) (found : Option RetirementRow) → AreOfPeriods count v.rows
    → AreOfPeriods count (option_map_or (unretired_row number v) found v).rows
unretired-of count number v None own = own
unretired-of count number v (Some row) own = marked-of count number v.rows own

listed-of : (count other : ℕ) (v : AccountValue) (day : Option ℕ) → AreOfPeriods count v.rows
    → AreOfPeriods count (listed_from v other day).rows
listed-of count other v None own = own
listed-of count other v (Some day) own = own

assessed-of : (count year : ℕ) (v : AccountValue) (figure : Result ℤ FigureFault) → AreOfPeriods count v.rows
    → AreOfPeriods count (assessed v year figure).rows
assessed-of count year v (Ok figure) own = own
assessed-of count year v (Err fault) own = own

given-of : (count : ℕ) (kind : AllowanceKind) (v : AccountValue) (found : Option Share) → AreOfPeriods count v.rows
    → AreOfPeriods count (option_map_or (λ (share : Share). credited v kind share.amount) found v).rows
given-of count kind v None own = own
given-of count kind v (Some share) own = own

module _ (count : ℕ) (c : Setting) (current : c.rules.current ≤ count) where
  fate-of : (way : Retirement) → FateIsOf count (fate_of c.rules way)
  fate-of Surrendered = current
  fate-of Deleted = tt

  made-of : (number : ℕ) (made : Change) (v : AccountValue) → AreOfPeriods count v.rows
      → AreOfPeriods count (made_by c number made v).rows
  made-of number (Debit kind amount) v own = own
  made-of number (Credit kind amount) v own = own
  made-of number (Retire way kind amount) v own = all-push (λ (row : RetirementRow). FateIsOf count row.fate) v.rows
      (new_row c number way kind amount) own (fate-of way)
  made-of number (Unretire reversed) v own = unretired-of count reversed v (row_in v.rows reversed) own
  made-of number (Trust other) v own = listed-of count other v (effective_day c) own
  made-of number (Untrust other) v own = own
  made-of number (SetStatus status) v own = own
  made-of number (SetEmissions year tonnes) v own = own
  made-of number (Determine year) v own = assessed-of count year v (figure_of c.rules v year) own

  changed-of : (number : ℕ) (act : Act) (v : AccountValue) → IsOfPeriods count v
      → IsOfPeriods count (changed_by c number act v)
  changed-of number act v own = record { corrections = own.corrections; rows = by (eqb v.number (first act)) }
    where
      by : (b : Bool) → AreOfPeriods count
          (cond b (made_by c number (change_of act) v) (given (movement_of act).kind (shares act) v)).rows
      by true = made-of number (change_of act) v own.rows
      by false = given-of count (movement_of act).kind v (share_of (shares act) v.number) own.rows

  effect-of : (number : ℕ) (act : Act) (s : State) → AllByRecursion (IsOfPeriods count) s
      → AllByRecursion (IsOfPeriods count) (map (changed_by c number act) s)
  effect-of number act [] all = tt
  effect-of number act (v ∷ vs) all = (changed-of number act v all.0, effect-of number act vs all.1)

  step-of : (number : ℕ) (s : State) (i : Instruction) (r : Option Refusal) → AllByRecursion (IsOfPeriods count) s
      → AllByRecursion (IsOfPeriods count) (step_by c s number i r).0
  step-of number s i None all = effect-of number i.act s all
  step-of number s i (Some q) all = all

  fold-of : (number : ℕ) (s : State) (is : List Instruction) → AllByRecursion (IsOfPeriods count) s
      → AllByRecursion (IsOfPeriods count) (state_after c s number is)
  fold-of number s [] all = all
  fold-of number s (i ∷ is) all = fold-of (number + 1) (step c s number i).0 is (step-of number s i (refusal c s i) all)

-- more periods
more-corrections : (count more : ℕ) (cs : List Correction) → count ≤ more
    → AllByRecursion (λ (k : Correction). k.period ≤ count) cs → AllByRecursion (λ (k : Correction). k.period ≤ more) cs
more-corrections count more [] le all = tt
more-corrections count more (k ∷ ks) le all = (omega (arith, le, all.0), more-corrections count more ks le all.1)

more-fates : (count more : ℕ) (row : RetirementRow) → count ≤ more → FateIsOf count row.fate → FateIsOf more row.fate
more-fates count more row le own = by row.fate own
  where
    by : (f : Fate) → FateIsOf count f → FateIsOf more f
    by (fate.Surrendered period) h = omega (arith, le, h)
    by fate.Deleted h = tt

more-rows : (count more : ℕ) (rows : List RetirementRow) → count ≤ more → AreOfPeriods count rows
    → AreOfPeriods more rows
more-rows count more [] le all = tt
more-rows count more (row ∷ rows) le all = (more-fates count more row le all.0, more-rows count more rows le all.1)

more-accounts : (count more : ℕ) (s : State) → count ≤ more → AllByRecursion (IsOfPeriods count) s
    → AllByRecursion (IsOfPeriods more) s
more-accounts count more [] le all = tt
more-accounts count more (v ∷ vs) le all = (
  record {
    corrections = more-corrections count more v.corrections le all.0.corrections;
    rows = more-rows count more v.rows le all.0.rows;
  },
  more-accounts count more vs le all.1,
)

module _ (closing : CommittedIsClosing) (leaves : ChainLeavesABook) where
  -- the book that a day leaves is of its periods
  periods-after : (day : DayValue) → CanBeSaid day
      → AllByRecursion (IsOfPeriods (length day.rules.periods)) (book_after day).accounts
  periods-after day said =
      subst (λ (b : BookValue). AllByRecursion (IsOfPeriods (length day.rules.periods)) b.accounts)
      (sym (closing day said.day.book said.day.follows))
      (fold-of (length day.rules.periods) (setting day) said.day.rules.fit.current_fits.high
      (day.batch.base + 1) day.book.accounts (take (length day.batch.instructions) day.batch.instructions)
      (recursion_from_All (IsOfPeriods (length day.rules.periods)) day.book.accounts said.periods))

  can-go_on : (before day : DayValue) → CanBeSaid before → IsNextDay before day → CanBeSaid day
  can-go_on before day said next =
      let left : IsBook (book_after before) = leaves before.book (before ∷ []) said.day.book (said.day, refl, tt) in
      let count = length day.rules.periods in
      record {
        day = record {
          book = subst IsBook (sym next.book) left;
          rules = next.rules;
          batch = next.batch;
          follows = next.begins;
        };
        periods = All-from_recursion (IsOfPeriods count) day.book.accounts
            (subst (λ (b : BookValue). AllByRecursion (IsOfPeriods count) b.accounts) (sym next.book)
            (more-accounts (length before.rules.periods) count (book_after before).accounts next.periods
            (periods-after before said)));
        shares = next.shares;
        pairs = next.pairs;
        pairs_rise = next.pairs_rise;
      }

  chain-days : (before : DayValue) (days : List DayValue) → CanBeSaid before → GoOn before days
      → IsChain (book_after before) days
  chain-days before [] said on = tt
  chain-days before (day ∷ days) said on =
      let later = can-go_on before day said on.0 in
      (later.day, on.0.book, chain-days day days later on.1)

-- ---- the account rows of a report

pub report-parts : (day : DayValue) → StandInReport day (accounts_text (book_after day))
report-parts day =
    let book = book_after day in
    let log = log_rows (log_of day) in
    text-append (log ++ written_book book) (totals_rows book)
    ∙ ap (λ (t : List ℕ). t ++ text_of (totals_rows book))
    (text-append log (written_book book)
    ∙ ap (λ (t : List ℕ). text_of log ++ t) (book-text-parts book)
    ∙ sym (append_assoc (text_of log) (book_line book) (accounts_text book)))

copied-are : (day : DayValue) (blocks : List ℕ) → StandInReport day blocks → blocks ≡ accounts_text (book_after day)
copied-are day blocks stand =
    let book = book_after day in
    let before = text_of (log_rows (log_of day)) ++ book_line book in
    append_cancel_left before blocks (accounts_text book)
    (append_cancel_right (before ++ blocks) (before ++ accounts_text book) (text_of (totals_rows book))
    (sym stand ∙ report-parts day))

-- so they are those of the book
are-blocks : (day : DayValue) (book : BookValue) (blocks : List ℕ) → book ≡ book_after day → StandInReport day blocks
    → IsBlocks book blocks
are-blocks day book blocks is stand = (
  text_of (written_book book),
  refl,
  book-text-parts book
      ∙ ap (λ (t : List ℕ). book_line book ++ t) (ap accounts_text is ∙ sym (copied-are day blocks stand)),
)

-- ---- the texts

module _ (again : BookIsReadAgain) where
  read-text : (day : DayValue) (blocks text : List ℕ) → CanBeSaid day → IsBlocks day.book blocks
      → IsTextOf day blocks text
      → day_of_rows (rows_in_text text) ≡ Ok day
  read-text day blocks text said are of =
      ap (λ (t : List ℕ). day_of_rows (rows_in_text t)) of.made
      ∙ again.again of.version day of.front blocks of.back of.is_known said of.heading are of.closing

  module _ (closing : CommittedIsClosing) (leaves : ChainLeavesABook) where
    read-days : (day : DayValue) (days : List DayValue) (blocks : List ℕ) (texts : List (List ℕ)) → CanBeSaid day
        → GoOn day days
        → IsBlocks day.book blocks → AreTexts blocks (day ∷ days) texts
        → map (λ (text : List ℕ). day_of_rows (rows_in_text text)) texts ≡ map Ok (day ∷ days)
    read-days day days blocks [] said on are texts = absurd texts
    read-days day [] blocks (text ∷ []) said on are texts =
        ap (λ r. r ∷ []) (read-text day blocks text said are texts.0)
    read-days day [] blocks (text ∷ more ∷ rest) said on are texts = let (copied, stand, none) = texts.1 in absurd none
    read-days day (next ∷ days) blocks (text ∷ rest) said on are texts =
        let (copied, stand, later) = texts.1 in
        ap (λ r. r ∷ map (λ (t : List ℕ). day_of_rows (rows_in_text t)) rest)
        (read-text day blocks text said are texts.0)
        ∙ ap (λ rs. Ok day ∷ rs) (read-days next days copied rest (can-go_on closing leaves day next said on.0) on.1
        (are-blocks day next.book copied on.0.book stand) later)

    pub reports-read : ReportsAreReadOn
    reports-read = record {
      has_accounts = λ day. (accounts_text (book_after day), report-parts day);
      can_be_said = can-go_on closing leaves;
      next_day = λ before day blocks text said next stand of.
          read-text day blocks text (can-go_on closing leaves before day said next)
          (are-blocks before day.book blocks next.book stand) of;
      chain = λ first days blocks texts said on are of. (
        read-days first days blocks texts said on are of,
        (said.day, refl, chain-days closing leaves first days said on),
      );
    }
