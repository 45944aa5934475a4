-- A settled day: its log, and the accounts that it touched after it.
use Rattle.std.specs.Prelude.{◌≡◌, ℕ, ◌+◌, ◌<◌, ◌≤◌, List, Some, length, map}
use Rattle.std.specs.List.{AllByRecursion}
use Rattle.std.specs.FinMap as fin
use Rattle.reg_base.specs.declared.limits.TheConstants.{MOST_RECORD}
use Rattle.reg_base.specs.Rising.{IsRising, count_up}
use Rattle.reg_account.specs.Account.{AccountValue}
use Rattle.reg_rules.specs.declared.reply.LogRow.{LogRow}
use Rattle.reg_rules.specs.State.{numbers}
use Rattle.reg_rules.specs.Effect.{IsBehind}
use Rattle.reg_book.specs.Book.{BookValue, directory_of, overlay}

-- a settled day as plain data: the last record number before it, its log, and the touched accounts by rising number
pub record SettledValue : Type 0 where
  pub base : ℕ
  pub rows : List LogRow
  pub accounts : List AccountValue

-- the record numbers of log rows
abbrev pub record_numbers : List LogRow → List ℕ
record_numbers rows = map (λ row. row.number) rows

-- what holds of every settled day: its accounts stand by rising number, and its rows have the record numbers after the
-- base
pub record IsSettled (s : SettledValue) : Type 0 where
  pub rising : IsRising (numbers s.accounts)
  pub in_order : record_numbers s.rows ≡ count_up (s.base + 1) (length s.rows)
  pub numbered : 0 < length s.rows → s.base + length s.rows ≤ MOST_RECORD

-- the book after the settled day: each settled account stands in the place of the one with its number, and the next
-- record number has risen by the number of log rows
abbrev pub committed : BookValue → SettledValue → BookValue
committed book s = record { accounts = overlay book.accounts s.accounts; next = s.base + length s.rows + 1 }

-- each settled account is in the book, with the same kind and holder, and its surrenders and deletions are recorded
-- under numbers up to that of the last log row
pub record IsOfBook (book : BookValue) (s : SettledValue) : Type 0 where
  pub listed : AllByRecursion (λ v. fin.get (directory_of book.accounts) v.number ≡ Some (v.kind, v.holder)) s.accounts
  pub behind : AllByRecursion (IsBehind (s.base + length s.rows + 1)) s.accounts
