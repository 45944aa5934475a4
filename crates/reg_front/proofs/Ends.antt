-- How a command ends, over plain variables.
use Rattle.std.proofs.Common.{◌≡◌, ℕ, List, true, is_err, OnErr, Option, None, Some, IfSome, Result, Ok, Err, refl}
use Rattle.std.specs.Prelude.{MatchResult}
use Rattle.reg_base.specs.Workers.{may_work}
use Rattle.reg_book.specs.Book.{BookValue}
use Rattle.reg_book.specs.Day.{DayValue}
use Rattle.reg_cuts.specs.Rows.{rows_in_text}
use Rattle.reg_text.specs.Reading.{IsReading}
use Rattle.reg_front.specs.declared.command.Command.{Command}
use Rattle.reg_front.specs.declared.command.Command.TheVariants.{Settle}
use Rattle.reg_front.specs.declared.fault.FrontFault.{FrontFault}
use Rattle.reg_front.specs.declared.fault.FrontFault.TheVariants.{Row, Read, Workers, NoAccount, NoThread, NoMemory}
use Rattle.reg_front.specs.declared.fault.FrontFault.TheVariants.{WriteFailed}
use Rattle.reg_front.specs.Streams.{Stream}
use Rattle.reg_front.specs.Devices.{AppendsFrontOf, FailsToWrite, IsReadWhole}
use Rattle.reg_front.specs.Runs.{command_fault, IsTextFor, IsFault, WritesFront, Fails, IsCommandFault}

-- what holds of a call that failed
pub of_failed : {X E : Type 0} {P : Type 0} (r : Result X E) → is_err r ≡ true → OnErr r P → P
of_failed (Ok x) failed p = absurd cc
of_failed (Err e) failed p = p

-- why the command could have a text to write
write_fault : (command : Command) (day : DayValue) (text : List ℕ) (input : Option (List ℕ))
    → IfSome input (λ bytes. IsReading (rows_in_text bytes) day)
    → command_fault command day.book ≡ None → IsTextFor command day text
    → IfSome input (λ bytes. IsFault command bytes WriteFailed)
write_fault command day text None reading fine made = _
write_fault command day text (Some bytes) reading fine made = (text, (day, reading, fine, made))

-- the prefix of what was written is one of the text
front_written : (command : Command) (day : DayValue) (text written : List ℕ) (input old new : Option (List ℕ))
    → IfSome input (λ bytes. IsReading (rows_in_text bytes) day) → command_fault command day.book ≡ None
    → IsTextFor command day text
    → written ≡ text → AppendsFrontOf written old new → WritesFront command input old new
front_written command day text written None old new reading fine made same took = _
front_written command day text written (Some bytes) old new reading fine made same took =
    (text, (day, reading, fine, made), rw same at took)

-- the writer has failed after it took a prefix of the day's text
pub failed_write : (command : Command) (day : DayValue) (text written : List ℕ) (input rest old new : Stream)
    → IfSome input.bytes (λ bytes. IsReading (rows_in_text bytes) day) → IsReadWhole input rest
    → command_fault command day.book ≡ None → IsTextFor command day text
    → written ≡ text → FailsToWrite written old new → Fails command WriteFailed input rest old new
failed_write command day text written input rest old new reading read fine made same took = record {
  why = write_fault command day text input.bytes reading fine made;
  read = read;
  left = (
    took.failed,
    front_written command day text written input.bytes old.bytes new.bytes reading fine made same
        took.bytes,
  );
}

-- a settlement by as many workers as may work fails for want of memory alone
pub for_memory : {X : Type 0} {P Q : X → Type 0} (workers : ℕ) (book : BookValue) (r : Result X FrontFault)
    → may_work workers ≡ true → ((x : X) → P x → Q x) → MatchResult r P (IsCommandFault (Settle workers) book)
    → MatchResult r Q (λ fault. fault ≡ NoMemory)
for_memory workers book (Ok x) may to end = to x end
for_memory workers book (Err (Row row cause)) may to end = absurd end
for_memory workers book (Err Workers) may to end =
    let fine : command_fault (Settle workers) book ≡ None = rw may refl in absurd cc
for_memory workers book (Err NoAccount) may to end =
    let fine : command_fault (Settle workers) book ≡ None = rw may refl in absurd cc
for_memory workers book (Err NoThread) may to end = absurd end
for_memory workers book (Err WriteFailed) may to end = absurd end
for_memory workers book (Err Read) may to end = absurd end
for_memory workers book (Err NoMemory) may to end = refl
