-- What a call tells and writes. Its outcome is a text or a fault.
use Rattle.std.specs.Prelude.{◌≡◌, ℕ, nat_le, List, ◌++◌, length, drop, Result, Ok, Err, ⊤, if◌then◌else◌}
use Rattle.reg_book.specs.Day.{DayValue}
use Rattle.reg_cuts.specs.Rows.{rows_in_text}
use Rattle.reg_text.specs.Faults.{day_of_rows}
use Rattle.reg_text.specs.Reading.{IsReading}
use Rattle.reg_text.specs.declared.cause.Cause.{Cause}
use Rattle.reg_text.specs.declared.cause.Cause.TheVariants as cause
use Rattle.reg_text.specs.declared.cause.DayFault.{DayFault}
use Rattle.reg_text.specs.declared.cause.DayFault.TheVariants as day
use Rattle.registry_c.specs.declared.answer.Answer.{Answer}
use Rattle.registry_c.specs.declared.fault.Fault.{Fault}
use Rattle.registry_c.specs.declared.fault.Fault.TheVariants.{Row, NoAccount, NoDate, NoMemory}
use Rattle.registry_c.specs.declared.question.Question.{Question}
use Rattle.registry_c.specs.Questions.{AsksForNobody, IsAnswer}

-- the fault of a call for each fault of the reader
abbrev pub fault_of_text : DayFault → Fault
fault_of_text (day.Row row cause) = Row row cause
fault_of_text day.NoMemory = NoMemory

-- the number of a cause, from 1 on
abbrev pub cause_number : Cause → ℕ
cause_number cause.End = 1
cause_number cause.Tag = 2
cause_number cause.Fields = 3
cause_number cause.Number = 4
cause_number cause.Date = 5
cause_number cause.Word = 6
cause_number cause.Version = 7
cause_number cause.Limit = 8
cause_number cause.Order = 9

-- what is told of an outcome: the length of the text, the first faulty row with its cause, or the status alone
abbrev pub answer_of : Result (List ℕ) Fault → Answer
answer_of (Ok text) = record { status = 0; cause = 0; row = 0; length = length text }
answer_of (Err NoAccount) = record { status = 2; cause = 0; row = 0; length = 0 }
answer_of (Err (Row row cause)) = record { status = 3; cause = cause_number cause; row = row; length = 0 }
answer_of (Err NoMemory) = record { status = 4; cause = 0; row = 0; length = 0 }
answer_of (Err NoDate) = record { status = 6; cause = 0; row = 0; length = 0 }

-- the caller's room after the call: a text stands at its front if there is room for all of it, and each byte behind the
-- text is as it was; otherwise each byte is as it was
abbrev pub room_after : Result (List ℕ) Fault → List ℕ → List ℕ
room_after (Ok text) room = if nat_le (length text) (length room) then text ++ drop (length text) room else room
room_after (Err fault) room = room

-- these bytes give this outcome to the question: the text that answers it for the day which they spell; that they spell
-- a day, and the account is not in its book; the first faulty row and the first cause that applies to it; or that
-- memory ran out, which can always be
abbrev pub IsDue : Question → List ℕ → Result (List ℕ) Fault → Type 0
IsDue question bytes (Ok text) = (day : DayValue) × IsReading (rows_in_text bytes) day × IsAnswer question day text
IsDue question bytes (Err NoAccount) =
    (day : DayValue) × IsReading (rows_in_text bytes) day × AsksForNobody question day.book
IsDue question bytes (Err (Row row cause)) = day_of_rows (rows_in_text bytes) ≡ Err (row, cause)
IsDue question bytes (Err NoDate) = ⊥
IsDue question bytes (Err NoMemory) = ⊤

-- a call was asked this of these bytes, gave this answer, and found and left the room so
abbrev pub Tells : Question → List ℕ → Answer → List ℕ → List ℕ → Type 0
Tells question bytes answer old new = (outcome : Result (List ℕ) Fault) × IsDue question bytes outcome
    × (answer ≡ answer_of outcome) × (new ≡ room_after outcome old)
