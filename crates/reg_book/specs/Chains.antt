-- Days one after another: each day has the book that the day before left.
use Rattle.std.specs.Prelude.{◌≡◌, ℕ, ◌+◌, ◌<◌, ◌≤◌, List, [], ◌∷◌, take, length, slice_get, sum_by, Some}
use Rattle.std.specs.List.{flat_map}
use Rattle.reg_base.specs.declared.kinds.AllowanceKind.{AllowanceKind}
use Rattle.reg_base.specs.declared.kinds.Status.TheVariants.{Closed}
use Rattle.reg_base.specs.Rising.{count_up}
use Rattle.reg_rules.specs.declared.reply.LogRow.{LogRow}
use Rattle.reg_rules.specs.State.{numbers, account, status}
use Rattle.reg_rules.specs.Conservation.{number_of}
use Rattle.reg_book.specs.Book.{BookValue, IsBook}
use Rattle.reg_book.specs.Settled.{committed, record_numbers}
use Rattle.reg_book.specs.Day.{DayValue, IsDay, state_at, value_at, log_of, settled_day}
use Rattle.reg_book.specs.Conservation.{created, deleted, undeleted}

-- the book that a day leaves: its settled day is committed
abbrev pub book_after : DayValue → BookValue
book_after day = committed day.book (settled_day day)

-- the book that these days leave, one after another
abbrev pub book_after_days : BookValue → List DayValue → BookValue
book_after_days book [] = book
book_after_days book (day ∷ days) = book_after_days (book_after day) days

-- the book after the first j days
abbrev pub book_at : BookValue → List DayValue → ℕ → BookValue
book_at book days j = book_after_days book (take j days)

-- the first day has this book, and each later one the book that the day before left; rules may differ from day to day
abbrev pub IsChain : BookValue → List DayValue → Type 0
IsChain book [] = Unit {0}
IsChain book (day ∷ days) = IsDay day × (day.book ≡ book) × IsChain (book_after day) days

-- what may become of a book by hand, between two days: the next record number stays, each closed account stays as it
-- is, and there are as many allowances of each kind
pub record MayBecome (left begun : BookValue) : Type 0 where
  pub next : begun.next ≡ left.next
  pub closed : (a : ℕ) → status left.accounts a ≡ Some Closed → account begun.accounts a ≡ account left.accounts a
  pub allowances : (kind : AllowanceKind) → number_of kind begun.accounts ≡ number_of kind left.accounts

-- the same, where each book may be changed by hand before the day begins
abbrev pub IsChainByHand : BookValue → List DayValue → Type 0
IsChainByHand book [] = Unit {0}
IsChainByHand book (day ∷ days) = IsDay day × MayBecome book day.book × IsChainByHand (book_after day) days

-- how many instructions all days have
abbrev pub instructions_in : List DayValue → ℕ
instructions_in days = sum_by (λ day. length day.batch.instructions) days

-- their logs, one after another
abbrev pub log_of_days : List DayValue → List LogRow
log_of_days days = flat_map log_of days

-- how many allowances of a kind the accepted creations of all days create
abbrev pub created_in : List DayValue → AllowanceKind → ℕ
created_in days kind = sum_by (λ day. created day kind) days

-- how many their accepted deletions delete
abbrev pub deleted_in : List DayValue → AllowanceKind → ℕ
deleted_in days kind = sum_by (λ day. deleted day kind) days

-- how many deleted ones their accepted reversals bring back
abbrev pub undeleted_in : List DayValue → AllowanceKind → ℕ
undeleted_in days kind = sum_by (λ day. undeleted day kind) days

-- law: what a chain of days leaves is a book, so that it may go on
abbrev pub ChainLeavesABook : Type 0
ChainLeavesABook = (book : BookValue) (days : List DayValue) → IsBook book → IsChain book days
    → IsBook (book_after_days book days)

-- law: no account is added, removed or moved
abbrev pub ChainKeepsAccounts : Type 0
ChainKeepsAccounts = (book : BookValue) (days : List DayValue) → IsChain book days
    → numbers (book_after_days book days).accounts ≡ numbers book.accounts

-- what holds of all chains of one kind
pub record ChainLaws (Chain : BookValue → List DayValue → Type 0) : Type 0 where
  -- record numbers go on without a gap: each instruction of all days has one, and they count up
  pub numbered : (book : BookValue) (days : List DayValue) → Chain book days
      → record_numbers (log_of_days days) ≡ count_up book.next (instructions_in days)
  -- and the next one after them is that of the last book
  pub next : (book : BookValue) (days : List DayValue) → Chain book days
      → (book_after_days book days).next ≡ book.next + instructions_in days
  -- an account that is closed after the first i days is the same after each later day
  pub closed : (book : BookValue) (days : List DayValue) (a i j : ℕ) → Chain book days → i ≤ j
      → status (book_at book days i).accounts a ≡ Some Closed
      → account (book_at book days j).accounts a ≡ account (book_at book days i).accounts a
  -- so is one that is closed after the first i instructions of a day
  pub closed_within : (book : BookValue) (days : List DayValue) (k : ℕ) (day : DayValue) (a i j : ℕ) → Chain book days
      → slice_get days k ≡ Some day → k < j
      → status (state_at day i) a ≡ Some Closed → account (book_at book days j).accounts a ≡ value_at day a i
  -- the number of allowances changes by what all days create, delete and bring back, and by nothing else
  pub conserved : (book : BookValue) (days : List DayValue) → Chain book days → (kind : AllowanceKind)
      → number_of kind (book_after_days book days).accounts + deleted_in days kind
      ≡ number_of kind book.accounts + created_in days kind + undeleted_in days kind
