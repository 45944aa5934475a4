-- What is true of a day's instructions one after another, for each account number.
use Rattle.std.specs.Prelude.{◌≡◌, ℕ, suc, ◌+◌, ◌≤◌, false, length, slice_get, Some, None, if◌then◌else◌}
use Rattle.reg_base.specs.declared.kinds.Status.TheVariants.{Closed}
use Rattle.reg_base.specs.declared.instruction.Instruction.{Instruction}
use Rattle.reg_base.specs.Touches.{is_touched, last_toucher}
use Rattle.reg_rules.specs.State.{numbers, account, status}
use Rattle.reg_rules.specs.Step.{step, row_of}
use Rattle.reg_rules.specs.Laws.{IsReady}
use Rattle.reg_book.specs.Book.{IsBook, IsBookKept, directory_of}
use Rattle.reg_book.specs.Settled.{committed, IsSettled, IsOfBook}
use Rattle.reg_book.specs.Day.{DayValue, IsDay, setting, state_at, value_at, log_of, replies_of, rows_replied, row_at}
use Rattle.reg_book.specs.Day.{closing_state, settled_day}

-- each instruction is carried out on what the ones before it left, and its log row is that of this step
pub record IsStepOf (day : DayValue) (k : ℕ) (i : Instruction) : Type 0 where
  pub state : state_at day (suc k) ≡ (step (setting day) (state_at day k) (day.batch.base + suc k) i).0
  pub row : row_at day (suc k)
      ≡ Some (row_of (setting day) (day.batch.base + suc k) i
      (step (setting day) (state_at day k) (day.batch.base + suc k) i).1)

abbrev pub EachIsAStep : Type 0
EachIsAStep =
    (day : DayValue) (k : ℕ) (i : Instruction) → slice_get day.batch.instructions k ≡ Some i → IsStepOf day k i

-- the log is made again of the batch and the replies
abbrev pub LogIsMadeAgain : Type 0
LogIsMadeAgain = (day : DayValue) → rows_replied day.batch (replies_of day) ≡ log_of day

-- no account is added, removed or moved
abbrev pub NumbersStay : Type 0
NumbersStay = (day : DayValue) (j : ℕ) → numbers (state_at day j) ≡ numbers day.book.accounts

-- an account that no instruction touches stays as it is
abbrev pub UntouchedStay : Type 0
UntouchedStay = (day : DayValue) (a : ℕ) → is_touched (directory_of day.book.accounts) day.batch.instructions a ≡ false
    → (j : ℕ) → value_at day a j ≡ account day.book.accounts a

-- an account is as the last instruction that touched it left it
abbrev pub ValueIsLastTouchers : Type 0
ValueIsLastTouchers = (day : DayValue) (a j : ℕ)
    → value_at day a j ≡ value_at day a (last_toucher (directory_of day.book.accounts) day.batch.instructions a j)

-- an account that is closed after the first i instructions is the same after each later one: nothing goes in or out,
-- and it keeps what it holds, its lists and everything else
abbrev pub ClosedStays : Type 0
ClosedStays = (day : DayValue) (a i j : ℕ) → i ≤ j → status (state_at day i) a ≡ Some Closed
    → value_at day a j ≡ value_at day a i

-- so it is closed for the rest of the day
abbrev pub ClosedIsNeverLeft : Type 0
ClosedIsNeverLeft = (day : DayValue) (a i j : ℕ) → i ≤ j → status (state_at day i) a ≡ Some Closed
    → status (state_at day j) a ≡ Some Closed

-- after the first j instructions the accounts are ready for the record number of the next one: each is there once and
-- within its limits, and its surrenders and deletions are recorded under lower numbers
abbrev pub StaysReady : Type 0
StaysReady = (day : DayValue) → IsDay day → (j : ℕ) → j ≤ length day.batch.instructions
    → IsReady (day.batch.base + 1 + j) (state_at day j)

-- the settled day has the account of a number as the last instruction left it if one touched it, and no other
abbrev pub SettledAreTouched : Type 0
SettledAreTouched = (day : DayValue) (a : ℕ)
    → account (settled_day day).accounts a
    ≡ (if is_touched (directory_of day.book.accounts) day.batch.instructions a
    then value_at day a (length day.batch.instructions) else None)

-- after a settled day is committed, the book holds the state after all instructions, and its next record number has
-- risen by the number of instructions
abbrev pub CommittedIsClosing : Type 0
CommittedIsClosing = (day : DayValue) → IsBook day.book → day.batch.base + 1 ≡ day.book.next
    → committed day.book (settled_day day)
    ≡ record { accounts = closing_state day; next = day.book.next + length day.batch.instructions }

-- the state after all instructions is that of a book again, with the directory that the book had, and its next record
-- number has risen by the number of instructions
abbrev pub ClosingIsABook : Type 0
ClosingIsABook = (day : DayValue) → IsDay day
    → IsBookKept (closing_state day) (directory_of day.book.accounts) (day.book.next + length day.batch.instructions)

-- the settled day is in order
abbrev pub SettledIsInOrder : Type 0
SettledIsInOrder = (day : DayValue) → IsDay day → IsSettled (settled_day day)

-- and it belongs to its book
abbrev pub SettledIsOfBook : Type 0
SettledIsOfBook = (day : DayValue) → IsDay day → IsOfBook day.book (settled_day day)
