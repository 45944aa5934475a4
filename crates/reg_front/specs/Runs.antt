-- What a command makes of an input: the text that it writes, or the fault that it answers.
use Rattle.std.specs.Prelude.{◌≡◌, ℕ, List, Option, Some, None, Err, ⊤, ◌⊎◌, IfSome, if◌then◌else◌}
use Rattle.std.specs.Io.KnownBytes.{Appends}
use Rattle.reg_book.specs.Book.{BookValue}
use Rattle.reg_book.specs.Day.{DayValue, log_of}
use Rattle.reg_book.specs.Chains.{book_after}
use Rattle.reg_base.specs.Workers.{may_work}
use Rattle.reg_cuts.specs.Rows.{rows_in_text}
use Rattle.reg_text.specs.Faults.{day_of_rows}
use Rattle.reg_text.specs.Reading.{IsReading}
use Rattle.reg_text.specs.Report.{text_of}
use Rattle.reg_text.specs.NextDays.{report_of}
use Rattle.reg_text.specs.Determined.{figures_rows}
use Rattle.reg_text.specs.Totals.{totals_rows}
use Rattle.reg_text.specs.PlanText.{IsPlanText}
use Rattle.reg_text.specs.Statement.{statement_of, has_account}
use Rattle.reg_front.specs.declared.command.Command.{Command}
use Rattle.reg_front.specs.declared.command.Command.TheVariants.{Settle, Plan, Statement, Figures, Totals}
use Rattle.reg_front.specs.declared.fault.FrontFault.{FrontFault}
use Rattle.reg_front.specs.declared.fault.FrontFault.TheVariants.{Row, Read, Workers, NoAccount, NoThread, NoMemory}
use Rattle.reg_front.specs.declared.fault.FrontFault.TheVariants.{WriteFailed}
use Rattle.reg_front.specs.Streams.{Stream, IsFlushed, IsGood, HasFailed}
use Rattle.reg_front.specs.Devices.{AppendsFrontOf, FailsToRead, IsPartlyRead, IsReadWhole, IsTooLong, IsUntouched}

-- why the command is refused for a day with this book, if it is
abbrev pub command_fault : Command → BookValue → Option FrontFault
command_fault (Settle workers) book = if may_work workers then None else Some Workers
command_fault Plan book = None
command_fault (Statement account) book = if has_account book account then None else Some NoAccount
command_fault Figures book = None
command_fault Totals book = None

-- this is the text that the command writes for a day
abbrev pub IsTextFor : Command → DayValue → List ℕ → Type 0
IsTextFor (Settle workers) day text = text ≡ report_of day
IsTextFor Plan day text = IsPlanText day text
IsTextFor (Statement account) day text = text ≡ text_of (statement_of day.book (log_of day) account)
IsTextFor Figures day text = text ≡ text_of (figures_rows (book_after day))
IsTextFor Totals day text = text ≡ text_of (totals_rows (book_after day))

-- the input is a day text, the command is not refused for that day, and this is the text that it writes
abbrev pub IsText : Command → List ℕ → List ℕ → Type 0
IsText command input text =
    (day : DayValue) × IsReading (rows_in_text input) day × (command_fault command day.book ≡ None)
    × IsTextFor command day text

-- the input is a day text, and the command is refused for that day for this reason
abbrev pub IsRefused : Command → List ℕ → FrontFault → Type 0
IsRefused command input fault =
    (day : DayValue) × IsReading (rows_in_text input) day × (command_fault command day.book ≡ Some fault)

-- the command may answer this fault for this input; a lack of memory can occur with every input; a thread that can't be
-- started is no fault; when an input is not read, the reader tells (`Reads`)
abbrev pub IsFault : Command → List ℕ → FrontFault → Type 0
IsFault command input (Row row cause) = day_of_rows (rows_in_text input) ≡ Err (row, cause)
IsFault command input Workers = IsRefused command input Workers
IsFault command input NoAccount = IsRefused command input NoAccount
IsFault command input WriteFailed = (text : List ℕ) × IsText command input text
IsFault command input NoThread = ⊥
IsFault command input Read = ⊤
IsFault command input NoMemory = ⊤

-- if the input is known, the command has written its text
abbrev pub WritesText : Command → Option (List ℕ) → Option (List ℕ) → Option (List ℕ) → Type 0
WritesText command input old new =
    IfSome input (λ bytes. (text : List ℕ) × IsText command bytes text × Appends old new text)

-- if the input is known, the command has written a prefix of its text
abbrev pub WritesFront : Command → Option (List ℕ) → Option (List ℕ) → Option (List ℕ) → Type 0
WritesFront command input old new =
    IfSome input (λ bytes. (text : List ℕ) × IsText command bytes text × AppendsFrontOf text old new)

-- what became of the writer by the time of a fault: if the fault is that the writer failed, one of its calls failed,
-- and it may have taken a prefix of the text; after all other faults no call of it failed, and it holds what it held
-- before
abbrev pub Leaves : Command → Option (List ℕ) → FrontFault → Stream → Stream → Type 0
Leaves command input (Row row cause) old new = IsUntouched old new
Leaves command input Workers old new = IsUntouched old new
Leaves command input NoAccount old new = IsUntouched old new
Leaves command input WriteFailed old new = HasFailed old new × WritesFront command input old.bytes new.bytes
Leaves command input NoThread old new = IsUntouched old new
Leaves command input Read old new = IsUntouched old new
Leaves command input NoMemory old new = IsUntouched old new

-- what became of the reader by the time of a fault: if the fault is that the input was not read, one call of the reader
-- failed, or none failed and the input is too long; before all other faults no call failed, and all of the input was
-- read, or if memory ran out a part of it
abbrev pub Reads : FrontFault → Stream → Stream → Type 0
Reads (Row row cause) input rest = IsReadWhole input rest
Reads Workers input rest = IsReadWhole input rest
Reads NoAccount input rest = IsReadWhole input rest
Reads NoThread input rest = IsReadWhole input rest
Reads WriteFailed input rest = IsReadWhole input rest
Reads Read input rest = FailsToRead input rest ⊎ (IsPartlyRead input rest × IsTooLong input)
Reads NoMemory input rest = IsPartlyRead input rest

-- the command has read the whole input and written its text, which the writer has handed on, and no call of the reader
-- or the writer has failed
pub record IsDone (command : Command) (input rest old new : Stream) : Type 0 where
  pub read : IsReadWhole input rest
  pub good : IsGood old new
  pub wrote : WritesText command input.bytes old.bytes new.bytes
  pub flushed : IsFlushed new

-- the command has answered this fault: why, and what became of the reader and of the writer
pub record Fails (command : Command) (fault : FrontFault) (input rest old new : Stream) : Type 0 where
  pub why : IfSome input.bytes (λ bytes. IsFault command bytes fault)
  pub read : Reads fault input rest
  pub left : Leaves command input.bytes fault old new

-- the command is carried out, with a fault or without: the reader was as `input` and is then as `rest`, the writer was
-- as `old` and is then as `new`
abbrev pub CarriesOut : Command → Option FrontFault → Stream → Stream → Stream → Stream → Type 0
CarriesOut command None input rest old new = IsDone command input rest old new
CarriesOut command (Some fault) input rest old new = Fails command fault input rest old new

-- why no day was read from the input
abbrev pub IsReadingFault : Option (List ℕ) → FrontFault → Type 0
IsReadingFault input (Row row cause) = IfSome input (λ bytes. day_of_rows (rows_in_text bytes) ≡ Err (row, cause))
IsReadingFault input Workers = ⊥
IsReadingFault input NoAccount = ⊥
IsReadingFault input NoThread = ⊥
IsReadingFault input WriteFailed = ⊥
IsReadingFault input Read = ⊤
IsReadingFault input NoMemory = ⊤

-- why a command gave no text for a day that was read: it is refused for that day, or if it is not, memory was lacking
abbrev pub IsCommandFault : Command → BookValue → FrontFault → Type 0
IsCommandFault command book (Row row cause) = ⊥
IsCommandFault command book Workers = command_fault command book ≡ Some Workers
IsCommandFault command book NoAccount = command_fault command book ≡ Some NoAccount
IsCommandFault command book NoThread = ⊥
IsCommandFault command book WriteFailed = ⊥
IsCommandFault command book Read = ⊥
IsCommandFault command book NoMemory = command_fault command book ≡ None
