-- The texts of days one after another: the account rows of each day's report stand in the text of the next day.
use Rattle.std.specs.Prelude.{◌≡◌, ℕ, ◌+◌, ◌≤◌, List, [], ◌∷◌, ◌++◌, All, map, length, Ok}
use Rattle.reg_base.specs.Batch.{IsBatch}
use Rattle.reg_base.specs.Rising.{IsRising}
use Rattle.reg_base.specs.Rules.{AreRules}
use Rattle.reg_book.specs.Day.{DayValue, log_of}
use Rattle.reg_book.specs.Chains.{book_after, IsChain}
use Rattle.reg_text.specs.Acts.{IsShared}
use Rattle.reg_text.specs.Faults.{day_of_rows}
use Rattle.reg_text.specs.Grammar.{pair_index}
use Rattle.reg_text.specs.ReadAgain.{book_line, IsBlocks, IsHeadingText, IsClosingText}
use Rattle.reg_text.specs.Reading.{CanBeSaid, IsPair, IsVersionOf}
use Rattle.reg_text.specs.Report.{text_of, log_rows, report_rows}
use Rattle.reg_text.specs.Totals.{totals_rows}
use Rattle.reg_cuts.specs.Rows.{rows_in_text}
use Rattle.reg_text.specs.declared.reading.scope.Version.{Version}

-- the report of a day: its log, the book after it, the totals and the row end
abbrev pub report_of : DayValue → List ℕ
report_of day = text_of (report_rows (book_after day) (log_of day))

-- these bytes stand in the report of the day between its `book` row and its first `totals` row: they are its account
-- rows
abbrev pub StandInReport : DayValue → List ℕ → Type 0
StandInReport day blocks = report_of day
    ≡ text_of (log_rows (log_of day)) ++ book_line (book_after day) ++ blocks ++ text_of (totals_rows (book_after day))

-- a text of the day, in a version of the format, with these account rows between its heading and its instructions,
-- however these are spelled
pub record IsTextOf (day : DayValue) (blocks text : List ℕ) : Type 0 where
  pub version : Version
  pub is_known : IsVersionOf day version
  pub front : List ℕ
  pub back : List ℕ
  pub heading : IsHeadingText version day front
  pub closing : IsClosingText day back
  pub made : text ≡ front ++ blocks ++ back

-- texts of these days: that of the first has these account rows, and each later one those of the report of the day
-- before
abbrev pub AreTexts : List ℕ → List DayValue → List (List ℕ) → Type 0
AreTexts blocks [] [] = Unit {0}
AreTexts blocks [] (text ∷ texts) = ⊥
AreTexts blocks (day ∷ days) [] = ⊥
AreTexts blocks (day ∷ days) (text ∷ texts) =
    IsTextOf day blocks text × ((copied : List ℕ) × StandInReport day copied × AreTexts copied days texts)

-- what is new in the text of the next day is within the limits: its rules, which have as many periods as those of the
-- day before, or more, and its batch, which begins with the next record number
pub record IsNextDay (before day : DayValue) : Type 0 where
  pub book : day.book ≡ book_after before
  pub rules : AreRules day.rules
  pub batch : IsBatch day.batch
  pub begins : day.batch.base + 1 ≡ day.book.next
  pub periods : length before.rules.periods ≤ length day.rules.periods
  pub shares : All (λ i. IsShared i.act) day.batch.instructions
  pub pairs : All IsPair day.rules.surrender
  pub pairs_rise : IsRising (map pair_index day.rules.surrender)

-- each of these days is the next one after the day before it
abbrev pub GoOn : DayValue → List DayValue → Type 0
GoOn before [] = Unit {0}
GoOn before (day ∷ days) = IsNextDay before day × GoOn day days

-- law: the account rows of a report, in the text of the next day, are read as the book that the day left
pub record ReportsAreReadOn : Type 0 where
  -- each report has account rows
  pub has_accounts : (day : DayValue) → (blocks : List ℕ) × StandInReport day blocks
  -- if a text can say a day, a text can say the next one, whatever is new in it
  pub can_be_said : (before day : DayValue) → CanBeSaid before → IsNextDay before day → CanBeSaid day
  -- it is read as this next day, whose book is the one that the day before left
  pub next_day : (before day : DayValue) (blocks text : List ℕ) → CanBeSaid before → IsNextDay before day
      → StandInReport before blocks → IsTextOf day blocks text
      → day_of_rows (rows_in_text text) ≡ Ok day
  -- so the texts of days that go on are read as these days, and these are a chain
  pub chain : (first : DayValue) (days : List DayValue) (blocks : List ℕ) (texts : List (List ℕ)) → CanBeSaid first
      → GoOn first days → IsBlocks first.book blocks → AreTexts blocks (first ∷ days) texts
      → (map (λ text. day_of_rows (rows_in_text text)) texts ≡ map Ok (first ∷ days))
      × IsChain first.book (first ∷ days)
