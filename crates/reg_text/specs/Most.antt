-- How long a report is at most, by the length of its day text.
use Rattle.std.specs.Prelude.{ℕ, ◌*◌, ◌≤◌, List, length}
use Rattle.reg_book.specs.Day.{DayValue}
use Rattle.reg_cuts.specs.Rows.{rows_in_text}
use Rattle.reg_text.specs.NextDays.{report_of}
use Rattle.reg_text.specs.Reading.{IsReading}

-- a length that is enough for the report of each day whose text has this length
abbrev pub report_most : ℕ → ℕ
report_most day_length = 8 * day_length

-- law: no report is longer
abbrev pub NoReportIsLonger : Type 0
NoReportIsLonger = (bytes : List ℕ) (day : DayValue) → IsReading (rows_in_text bytes) day
    → length (report_of day) ≤ report_most (length bytes)
