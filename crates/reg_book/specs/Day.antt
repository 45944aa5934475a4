-- A day that is to be settled, as plain data, and what its instructions make of its book one after another.
use Rattle.std.specs.Prelude.{◌≡◌, ℕ, zero, suc, ◌+◌, List, length, take, slice_get, Option, None}
use Rattle.reg_base.specs.Rules.{RulesValue, AreRules}
use Rattle.reg_base.specs.Batch.{BatchValue, IsBatch}
use Rattle.reg_account.specs.Account.{AccountValue}
use Rattle.reg_rules.specs.declared.reply.LogRow.{LogRow}
use Rattle.reg_rules.specs.declared.reply.Reply.{Reply}
use Rattle.reg_rules.specs.State.{State, Setting, account}
use Rattle.reg_book.specs.Book.{BookValue, IsBook, directory_of}
use Rattle.reg_book.specs.Fold.{state_after, rows_of, replies_in, rows_from, touched_of}
use Rattle.reg_book.specs.Settled.{SettledValue}

-- the book before the day, its rules and its instructions
pub record DayValue : Type 0 where
  pub book : BookValue
  pub rules : RulesValue
  pub batch : BatchValue

abbrev pub day_of : BookValue → RulesValue → BatchValue → DayValue
day_of book rules batch = record { book = book; rules = rules; batch = batch }

-- each part is as it has to be, and the batch begins with the book's next record number
pub record IsDay (day : DayValue) : Type 0 where
  pub book : IsBook day.book
  pub rules : AreRules day.rules
  pub batch : IsBatch day.batch
  pub follows : day.batch.base + 1 ≡ day.book.next

-- what stays the same while the day is settled
abbrev pub setting : DayValue → Setting
setting day = record { rules = day.rules; day = day.batch.day; directory = directory_of day.book.accounts }

-- all accounts after the first j instructions
abbrev pub state_at : DayValue → ℕ → State
state_at day j = state_after (setting day) day.book.accounts (day.batch.base + 1) (take j day.batch.instructions)

-- the account of a number after the first j instructions
abbrev pub value_at : DayValue → ℕ → ℕ → Option AccountValue
value_at day a j = account (state_at day j) a

-- the log of all instructions
abbrev pub log_of : DayValue → List LogRow
log_of day = rows_of (setting day) day.book.accounts (day.batch.base + 1) day.batch.instructions

-- the replies to all instructions, in order
abbrev pub replies_of : DayValue → List Reply
replies_of day = replies_in (log_of day)

-- the log of a batch with these replies
abbrev pub rows_replied : BatchValue → List Reply → List LogRow
rows_replied batch replies = rows_from batch.day (batch.base + 1) batch.instructions replies

-- the log row of the instruction at place j, counted from 1
abbrev pub row_at : DayValue → ℕ → Option LogRow
row_at day zero = None
row_at day (suc k) = slice_get (log_of day) k

-- all accounts after the last instruction
abbrev pub closing_state : DayValue → State
closing_state day = state_at day (length day.batch.instructions)

-- the settled day: the log, and the touched accounts after the last instruction
abbrev pub settled_day : DayValue → SettledValue
settled_day day = record {
  base = day.batch.base;
  rows = log_of day;
  accounts = touched_of (directory_of day.book.accounts) day.batch.instructions (closing_state day);
}
