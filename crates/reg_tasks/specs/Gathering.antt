-- What a settled day is gathered from, and what is tested of it.
use Rattle.std.specs.Prelude.{◌≡◌, ℕ, zero, suc, ◌+◌, ◌≤◌, ◌==◌, ◌&&◌, Bool, true, false, not, nat_eq, List, [], ◌∷◌}
use Rattle.std.specs.Prelude.{length, map, take, slice_get, Option, Some, None, IsPermutation}
use Rattle.std.specs.Option.{option_map}
use Rattle.std.specs.List.{IsDistinct, AllByRecursion}
use Rattle.std.specs.FinMap as fin
use Rattle.reg_base.specs.Directory.{DirectoryValue}
use Rattle.reg_base.specs.Footprint.{is_among}
use Rattle.reg_base.specs.Rising.{count_up}
use Rattle.reg_base.specs.Touches.{is_touched, last_toucher}
use Rattle.reg_base.specs.Batch.{BatchValue}
use Rattle.reg_account.specs.Account.{AccountValue}
use Rattle.reg_rules.specs.Effect.{IsBehind}
use Rattle.reg_rules.specs.declared.reply.LogRow.{LogRow}
use Rattle.reg_rules.specs.declared.reply.Reply.{Reply}
use Rattle.reg_rules.specs.State.{State}
use Rattle.reg_rules.specs.Step.{row_of}
use Rattle.reg_book.specs.Book.{BookValue}
use Rattle.reg_book.specs.Settled.{SettledValue, IsSettled, IsOfBook}
use Rattle.reg_book.specs.Day.{DayValue, setting, log_of, settled_day}
use Rattle.reg_plan.specs.Plans.{PlanValue}
use Rattle.reg_schedules.specs.Pool.{directory, footprint_at, leads_on}
use Rattle.reg_schedules.specs.Schedules.{AreLastValues}
use Rattle.reg_tasks.specs.declared.naming.Naming.{Ghosts}
use Rattle.reg_tasks.specs.declared.done.Done.{Done}

-- if a day is named, these are the rows of its log, in any order
abbrev pub AreRows : Option DayValue → List LogRow → Type 0
AreRows name rows = (day : DayValue) → name ≡ Some day → ∥ IsPermutation (log_of day) rows ∥₁

-- if a day is named, these are the rows of its first places, so many
abbrev pub AreFirstRows : Option DayValue → ℕ → List LogRow → Type 0
AreFirstRows name count rows = (day : DayValue) → name ≡ Some day → rows ≡ take count (log_of day)

-- the accounts of names
abbrev pub named_accounts : List (ℕ × ℕ) → List ℕ
named_accounts names = map (λ n. n.0) names

-- these are the names of the values that are left at the end: each touched account once, with the last instruction that
-- touches it
pub record AreLast (day : DayValue) (names : List (ℕ × ℕ)) : Type 0 where
  pub once : IsDistinct nat_eq (named_accounts names)
  pub touched : (a : ℕ) → is_among (named_accounts names) a ≡ is_touched (directory day) day.batch.instructions a
  pub last : AllByRecursion
      (λ n. n.1 ≡ last_toucher (directory day) day.batch.instructions n.0 (length day.batch.instructions)) names

-- if a day is named, these are the names of the values that are left at its end
abbrev pub AreClosing : Option DayValue → List (ℕ × ℕ) → Type 0
AreClosing name names = (day : DayValue) → name ≡ Some day → AreLast day names

-- this is the name of a value that is left at the end
pub record IsLastName (day : DayValue) (name : ℕ × ℕ) : Type 0 where
  pub touched : is_touched (directory day) day.batch.instructions name.0 ≡ true
  pub last : name.1 ≡ last_toucher (directory day) day.batch.instructions name.0 (length day.batch.instructions)

-- if a day is named, this is the name of a value that is left at its end
abbrev pub IsClosing : Option DayValue → ℕ × ℕ → Type 0
IsClosing name n = (day : DayValue) → name ≡ Some day → IsLastName day n

-- if a day is named, these are the accounts that it touched, as the last instruction left them, in any order
abbrev pub AreClosingValues : Option DayValue → State → Type 0
AreClosingValues name accounts = (day : DayValue) → name ≡ Some day → AreLastValues day accounts

-- the row of the instruction at a place, counted from 1, if this is its reply; none if it is no place
abbrev pub row_replied : DayValue → ℕ → Reply → Option LogRow
row_replied day zero reply = None
row_replied day (suc k) reply =
    option_map (λ i. row_of (setting day) (day.batch.base + suc k) i reply) (slice_get day.batch.instructions k)

-- the record numbers and the replies of rows
abbrev pub replies_by_number : List LogRow → List (ℕ × Reply)
replies_by_number rows = map (λ row. (row.number, row.reply)) rows

module _ {N : Type 0} {b : Ghosts N} where
  -- the places of instructions that were run
  abbrev pub places_of : List (Done N b) → List ℕ
  places_of done = map (λ d. d.place) done

  -- their rows in a day
  abbrev pub rows_in : DayValue → List (Done N b) → List (Option LogRow)
  rows_in day done = map (λ d. row_replied day d.place d.reply) done

  -- their record numbers and replies; the place before the first has this number
  abbrev pub replies_from : ℕ → List (Done N b) → List (ℕ × Reply)
  replies_from base done = map (λ d. (d.place + base, d.reply)) done

  -- each is at one of so many places
  abbrev pub AreWithin : ℕ → List (Done N b) → Type 0
  AreWithin count done = AllByRecursion (λ (d : Done N b). (1 ≤ d.place) × (d.place ≤ count)) done

-- each place once, and the last parcel of each touched account once, in any order
pub record AreOutcomes (day : DayValue) (places : List ℕ) (names : List (ℕ × ℕ)) : Type 0 where
  pub each : IsPermutation (count_up 1 (length day.batch.instructions)) places
  pub last : AreLast day names

-- if a day is named, these are not each of its places once and the names of the values that are left at its end
abbrev pub AreNotAll : Option DayValue → List ℕ → List (ℕ × ℕ) → Type 0
AreNotAll name places names = (day : DayValue) → name ≡ Some day → ¬ (AreOutcomes day places names)

-- the numbers are this one, the next one, and so on
abbrev pub counts_up : ℕ → List ℕ → Bool
counts_up first [] = true
counts_up first (x ∷ xs) = (x == first) && counts_up (first + 1) xs

-- the places are 1, 2 and so on to the last
abbrev pub are_each : DayValue → List ℕ → Bool
are_each day places = (length places == length day.batch.instructions) && counts_up 1 places

-- the instruction at the place of this name touches its account, and no later one does: no arrow leads on from there
abbrev pub is_last : DayValue → PlanValue → ℕ × ℕ → Bool
is_last day plan name = is_among (footprint_at day name.1) name.0 && not (leads_on plan name.1 name.0)

-- something stands there, and no later instruction touches its account
abbrev pub is_last_there : DayValue → PlanValue → Option (ℕ × ℕ) → Bool
is_last_there day plan None = false
is_last_there day plan (Some name) = is_last day plan name

-- the names are of these accounts, in this order
abbrev pub have_accounts : List ℕ → List (ℕ × ℕ) → Bool
have_accounts [] [] = true
have_accounts [] (name ∷ names) = false
have_accounts (a ∷ more) [] = false
have_accounts (a ∷ more) (name ∷ names) = (name.0 == a) && have_accounts more names

-- each place is there, in order, and the names are of these accounts
abbrev pub are_outcomes : DayValue → List ℕ → List ℕ → List (ℕ × ℕ) → Bool
are_outcomes day accounts places names = are_each day places && have_accounts accounts names

-- if a day is named, these are its log and its settled accounts, in their order
pub record IsGathered (name : Option DayValue) (rows : List LogRow) (accounts : State) : Type 0 where
  pub rows_are : (d : DayValue) → name ≡ Some d → rows ≡ log_of d
  pub accounts_are : (d : DayValue) → name ≡ Some d → accounts ≡ (settled_day d).accounts

-- rows and accounts as a settled day of this batch
abbrev pub gathered : BatchValue → List LogRow → State → SettledValue
gathered batch rows accounts = record { base = batch.base; rows = rows; accounts = accounts }

-- there is a row for each instruction, they stand in order, and the settled day may be committed to the book
pub record IsWhole (book : BookValue) (batch : BatchValue) (rows : List LogRow) (accounts : State) : Type 0 where
  pub each : length rows ≡ length batch.instructions
  pub in_order : IsSettled (gathered batch rows accounts)
  pub of_book : IsOfBook book (gathered batch rows accounts)

-- the rows have the record numbers from this one on
abbrev pub are_counted : ℕ → List LogRow → Bool
are_counted first [] = true
are_counted first (row ∷ rows) = (row.number == first) && are_counted (first + 1) rows

-- the directory has the account with its kind and its holder, and its surrenders and deletions have lower record
-- numbers
pub record IsCommittable (directory : DirectoryValue) (next : ℕ) (v : AccountValue) : Type 0 where
  pub listed : fin.get directory v.number ≡ Some (v.kind, v.holder)
  pub behind : IsBehind next v
