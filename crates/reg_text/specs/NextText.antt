-- The text of the next day up to its instructions: its heading and its accounts, from the day before and a date.
use Rattle.std.specs.Prelude.{◌≡◌, ℕ, ◌+◌, ◌-◌, List, [], ◌++◌, All, Ok}
use Rattle.reg_base.specs.Batch.{IsBatch}
use Rattle.reg_base.specs.Rules.{RulesValue}
use Rattle.reg_book.specs.Book.{BookValue}
use Rattle.reg_book.specs.Chains.{book_after}
use Rattle.reg_book.specs.Day.{DayValue}
use Rattle.reg_cuts.specs.Rows.{rows_in_text}
use Rattle.reg_text.specs.Acts.{IsShared}
use Rattle.reg_text.specs.Faults.{day_of_rows}
use Rattle.reg_text.specs.NextDays.{StandInReport}
use Rattle.reg_text.specs.ReadAgain.{accounts_text, IsClosingText}
use Rattle.reg_text.specs.Reading.{IsReading}
use Rattle.reg_text.specs.Report.{text_of}
use Rattle.reg_text.specs.Sections.{all_rows}
use Rattle.reg_text.specs.Spelling.{heading}
use Rattle.reg_text.specs.declared.reading.scope.Version.{Version}

-- a day with these rules and this book, and without instructions
abbrev pub empty_day : RulesValue → BookValue → ℕ → DayValue
empty_day rules book day = record {
  rules = rules;
  book = book;
  batch = record { day = day; base = book.next - 1; instructions = [] };
}

-- the rows of a heading
abbrev pub heading_text : Version → RulesValue → BookValue → ℕ → List ℕ
heading_text version rules book day = text_of (all_rows (heading version (empty_day rules book day)))

-- the text of a day up to its instructions
abbrev pub front_text : Version → RulesValue → BookValue → ℕ → List ℕ
front_text version rules book day = heading_text version rules book day ++ accounts_text book

-- of the day after this one: the rules stay, and the book is the one that the day leaves
abbrev pub next_text : Version → DayValue → ℕ → List ℕ
next_text version before day = front_text version before.rules (book_after before) day

-- a day that goes on with the rules and the book of the day before, whatever its date and its instructions are
pub record GoesOn (before after : DayValue) : Type 0 where
  pub rules : after.rules ≡ before.rules
  pub book : after.book ≡ book_after before
  pub batch : IsBatch after.batch
  pub begins : after.batch.base + 1 ≡ after.book.next
  pub shares : All (λ i. IsShared i.act) after.batch.instructions

-- law: the accounts of such a text are those of the report of the day before. With the rows of instructions and the row
-- `end` behind it, in any spelling, it is read as the day that goes on
pub record NextTextsAreReadOn : Type 0 where
  pub stands : (before : DayValue) → StandInReport before (accounts_text (book_after before))
  pub read_on : (bytes back : List ℕ) (before after : DayValue) (reading : IsReading (rows_in_text bytes) before)
      → GoesOn before after → IsClosingText after back
      → day_of_rows (rows_in_text (next_text reading.version before after.batch.day ++ back)) ≡ Ok after
