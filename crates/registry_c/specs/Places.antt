-- Where the first fault of a day text stands, as a call tells it.
use Rattle.std.specs.Prelude.{◌≡◌, ℕ, List, Option, Some, None, Err, ⊤}
use Rattle.reg_book.specs.Day.{DayValue}
use Rattle.reg_cuts.specs.Rows.{rows_in_text}
use Rattle.reg_text.specs.Faults.{day_of_rows}
use Rattle.reg_text.specs.Reading.{IsReading}
use Rattle.reg_text.specs.declared.cause.Cause.{Cause}
use Rattle.reg_text.specs.declared.cause.DayFault.{DayFault}
use Rattle.reg_text.specs.declared.cause.DayFault.TheVariants.{Row, NoMemory}
use Rattle.registry_c.specs.Answers.{cause_number}
use Rattle.registry_c.specs.declared.place.Place.{Place}

-- a status alone
abbrev pub without_row : ℕ → Place
without_row status = record { status = status; cause = 0; row = 0; field = 0; column = 0 }

-- this row and this cause are told; nothing is promised of the field
abbrev pub IsPlaced : ℕ → Cause → Place → Type 0
IsPlaced row cause place = (place.status ≡ 3) × (place.cause ≡ cause_number cause) × (place.row ≡ row)

-- what these bytes are: a day's; no day's, with the first faulty row and the first cause that applies to it; or nobody
-- knows, since memory ran out, which can always be
abbrev pub IsFaultOf : List ℕ → Option DayFault → Type 0
IsFaultOf bytes None = (day : DayValue) × IsReading (rows_in_text bytes) day
IsFaultOf bytes (Some (Row row cause)) = day_of_rows (rows_in_text bytes) ≡ Err (row, cause)
IsFaultOf bytes (Some NoMemory) = ⊤

-- what is told of it
abbrev pub IsPlace : Option DayFault → Place → Type 0
IsPlace None place = place ≡ without_row 0
IsPlace (Some (Row row cause)) place = IsPlaced row cause place
IsPlace (Some NoMemory) place = place ≡ without_row 4

-- a call was asked where the first fault of these bytes stands, and told this
abbrev pub TellsPlace : List ℕ → Place → Type 0
TellsPlace bytes place = (found : Option DayFault) × IsFaultOf bytes found × IsPlace found place
