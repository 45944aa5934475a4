-- The text of the next day up to its instructions, as a call tells it.
use Rattle.std.specs.Prelude.{◌≡◌, ℕ, ◌<◌, Bool, false, nat_lt, List, Result, Ok, Err, ⊤}
use Rattle.reg_book.specs.Day.{DayValue}
use Rattle.reg_cuts.specs.Rows.{rows_in_text}
use Rattle.reg_text.specs.Dates.{date_of}
use Rattle.reg_text.specs.Faults.{day_of_rows}
use Rattle.reg_text.specs.NextText.{next_text}
use Rattle.reg_text.specs.Reading.{IsReading}
use Rattle.reg_text.specs.declared.cause.Cause.{Cause}
use Rattle.registry_c.specs.Answers.{answer_of, room_after}
use Rattle.registry_c.specs.declared.answer.Answer.{Answer}
use Rattle.registry_c.specs.declared.fault.Fault.{Fault}
use Rattle.registry_c.specs.declared.fault.Fault.TheVariants.{Row, NoAccount, NoDate, NoMemory}

-- what was read is a date, and later than the day
abbrev pub is_later : ℕ → Result ℕ Cause → Bool
is_later day (Ok date) = nat_lt day date
is_later day (Err cause) = false

-- the bytes of a day text and these bytes of a date give this outcome: the text of the next day up to its instructions,
-- in the version of the day text; that the text is a day's, and the date is none that is later; the first faulty row
-- and the first cause that applies to it; or that memory ran out, which can always be
abbrev pub IsNextDue : List ℕ → List ℕ → Result (List ℕ) Fault → Type 0
IsNextDue bytes date (Ok text) = (day : DayValue) × (reading : IsReading (rows_in_text bytes) day) × (next : ℕ)
    × (date_of date ≡ Ok next) × (day.batch.day < next) × (text ≡ next_text reading.version day next)
IsNextDue bytes date (Err NoDate) = (day : DayValue) × IsReading (rows_in_text bytes) day
    × (is_later day.batch.day (date_of date) ≡ false)
IsNextDue bytes date (Err (Row row cause)) = day_of_rows (rows_in_text bytes) ≡ Err (row, cause)
IsNextDue bytes date (Err NoAccount) = ⊥
IsNextDue bytes date (Err NoMemory) = ⊤

-- a call was asked for this, gave this answer, and found and left the room so
abbrev pub TellsNext : List ℕ → List ℕ → Answer → List ℕ → List ℕ → Type 0
TellsNext bytes date answer old new = (outcome : Result (List ℕ) Fault) × IsNextDue bytes date outcome
    × (answer ≡ answer_of outcome) × (new ≡ room_after outcome old)
