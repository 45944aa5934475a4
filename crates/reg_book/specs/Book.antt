-- A book: the accounts of a registry in the order of their numbers, and the next record number.
use Rattle.std.specs.Prelude.{◌≡◌, ℕ, ◌+◌, ◌<◌, ◌≤◌, Bool, false, List, [], ◌∷◌, ◌++◌, All, map, find, length}
use Rattle.std.specs.Prelude.{slice_index, sum_by, nat_eq, nat_le, IsPermutation, Option, Some, None, unwrap_or}
use Rattle.std.specs.List.{IsDistinct, list_any}
use Rattle.std.specs.FinMap as fin
use Rattle.reg_base.specs.declared.limits.TheConstants.{MOST_ACCOUNTS, MOST_RECORD}
use Rattle.reg_base.specs.declared.kinds.AllowanceKind.{AllowanceKind}
use Rattle.reg_base.specs.declared.kinds.AccountKind.{AccountKind}
use Rattle.reg_base.specs.Rising.{IsRising}
use Rattle.reg_base.specs.Directory.{DirectoryValue}
use Rattle.reg_base.specs.Footprint.{is_among}
use Rattle.reg_base.specs.declared.kinds.Retirement.{Retirement}
use Rattle.reg_account.specs.Account.{AccountValue, IsAccount, held_by, retired_by}
use Rattle.reg_rules.specs.State.{account, numbers}
use Rattle.reg_rules.specs.Effect.{IsBehind}
use Rattle.reg_book.specs.declared.draft.BookFault.{BookFault}
use Rattle.reg_book.specs.declared.draft.BookFault.TheVariants.{Repeated, RowAhead, Full, NoMemory}

-- a book as plain data
pub record BookValue : Type 0 where
  pub accounts : List AccountValue
  pub next : ℕ

-- what the directory says of an account
abbrev pub entry_of : AccountValue → ℕ × (AccountKind × ℕ)
entry_of v = (v.number, (v.kind, v.holder))

-- the directory of these accounts
abbrev pub directory_of : List AccountValue → DirectoryValue
directory_of accounts = fin.from_entries (map entry_of accounts)

-- the next record number is 1 to 10^15 + 1
pub record IsNext (next : ℕ) : Type 0 where
  pub from_one : 1 ≤ next
  pub to_the_end : next ≤ MOST_RECORD + 1

-- what holds of every book; surrenders and deletions are recorded under numbers below the next one
pub record IsBook (b : BookValue) : Type 0 where
  pub rising : IsRising (numbers b.accounts)
  pub few : length b.accounts ≤ MOST_ACCOUNTS
  pub within_limits : All IsAccount b.accounts
  pub next : IsNext b.next
  pub behind : All (IsBehind b.next) b.accounts

-- what holds of a book and its directory
pub record IsBookKept (accounts : List AccountValue) (directory : DirectoryValue) (next : ℕ) : Type 0 where
  pub book : IsBook (record { accounts = accounts; next = next })
  pub listed : directory ≡ directory_of accounts

-- what holds of every draft; its accounts are in the order in which they were inserted
pub record IsBookDraft (accounts : List AccountValue) (directory : DirectoryValue) (next : ℕ) : Type 0 where
  pub distinct : IsDistinct nat_eq (numbers accounts)
  pub few : length accounts ≤ MOST_ACCOUNTS
  pub within_limits : All IsAccount accounts
  pub next_fits : IsNext next
  pub behind : All (IsBehind next) accounts
  pub listed : directory ≡ directory_of accounts

-- the book has exactly the accounts of the draft, by rising number; those that rise already stay as they were inserted
pub record IsFinished (draft book : BookValue) : Type 0 where
  pub same : IsPermutation draft.accounts book.accounts
  pub rising : IsRising (numbers book.accounts)
  pub next_stays : book.next ≡ draft.next
  pub as_inserted : IsRising (numbers draft.accounts) → book.accounts ≡ draft.accounts

-- the book with one more account
abbrev pub with_account : BookValue → AccountValue → BookValue
with_account b a = record b { accounts = b.accounts ++ a ∷ [] }

-- a surrender or a deletion has a number that is not below the next one
abbrev pub has_row_ahead : ℕ → AccountValue → Bool
has_row_ahead next a = list_any (λ row. nat_le next row.number) a.rows

-- why a draft refuses an account: another one has its number, it has a row ahead, or the draft is full
abbrev pub has : BookValue → AccountValue → BookFault → Bool
has b a Repeated = is_among (numbers b.accounts) a.number
has b a RowAhead = has_row_ahead b.next a
has b a Full = nat_le MOST_ACCOUNTS (length b.accounts)
has b a NoMemory = false

-- the faults that are looked for, in their order
abbrev pub faults : List BookFault
faults = Repeated ∷ RowAhead ∷ Full ∷ []

-- the first reason why a draft refuses an account
abbrev pub first_fault : BookValue → AccountValue → Option BookFault
first_fault b a = find (has b a) faults

-- why an account was refused: the first reason, or memory ran out and there is no other reason
abbrev pub IsBookFault : BookValue → AccountValue → BookFault → Type 0
IsBookFault b a Repeated = first_fault b a ≡ Some Repeated
IsBookFault b a RowAhead = first_fault b a ≡ Some RowAhead
IsBookFault b a Full = first_fault b a ≡ Some Full
IsBookFault b a NoMemory = first_fault b a ≡ None

-- how many allowances of a kind all accounts hold
abbrev pub total_held : BookValue → AllowanceKind → ℕ
total_held b kind = sum_by (λ v. held_by v kind) b.accounts

-- how many allowances of a kind all accounts have surrendered (or deleted)
abbrev pub total_retired : BookValue → Retirement → AllowanceKind → ℕ
total_retired b way kind = sum_by (λ v. retired_by v way kind) b.accounts

-- the accounts, each replaced by the account of the other list that has the same number, if there is one
abbrev pub overlay : List AccountValue → List AccountValue → List AccountValue
overlay accounts others = map (λ v. unwrap_or (account others v.number) v) accounts

-- from this index on each number is higher
abbrev pub AreHigher : List ℕ → ℕ → ℕ → Type 0
AreHigher ns from a = (k : ℕ) → from ≤ k → k < length ns → a < slice_index ns k
