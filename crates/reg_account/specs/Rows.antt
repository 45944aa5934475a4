-- Surrenders and deletions, as rows by rising record number.
use Rattle.std.specs.Prelude.{⊤, ℕ, ◌<◌, ◌≤◌, Bool, true, false, not, ◌==◌, ◌&&◌, ◌||◌, nat_lt, List, map, find, length}
use Rattle.std.specs.Prelude.{Option, if◌then◌else◌}
use Rattle.std.specs.List.{sum_by, list_any, AllByRecursion}
use Rattle.reg_base.specs.declared.limits.TheConstants.{MOST_RETIRED, MOST_ROWS, MOST_PERIODS}
use Rattle.reg_base.specs.declared.kinds.AllowanceKind.{AllowanceKind}
use Rattle.reg_base.specs.declared.kinds.AllowanceKind.TheVariants.{General, Aviation}
use Rattle.reg_base.specs.Numbers.{IsWithin, IsRecordNo, IsDayNo}
use Rattle.reg_base.specs.Rising.{IsRising, is_rising_from}
use Rattle.reg_base.specs.declared.kinds.Retirement.{Retirement}
use Rattle.reg_base.specs.declared.kinds.Retirement.TheVariants.{Surrendered, Deleted}
use Rattle.reg_account.specs.declared.rows.Fate.{Fate}
use Rattle.reg_account.specs.declared.rows.Fate.TheVariants as fate
use Rattle.reg_account.specs.declared.rows.RetirementRow.{RetirementRow}

abbrev pub is_same_kind : AllowanceKind → AllowanceKind → Bool
is_same_kind General General = true
is_same_kind General Aviation = false
is_same_kind Aviation General = false
is_same_kind Aviation Aviation = true

abbrev pub is_same_retirement : Retirement → Retirement → Bool
is_same_retirement Surrendered Surrendered = true
is_same_retirement Surrendered Deleted = false
is_same_retirement Deleted Surrendered = false
is_same_retirement Deleted Deleted = true

-- allowances of this fate were surrendered, or deleted
abbrev pub retirement_of : Fate → Retirement
retirement_of (fate.Surrendered period) = Surrendered
retirement_of fate.Deleted = Deleted

-- they were surrendered for the emissions of this period
abbrev pub is_for : ℕ → Fate → Bool
is_for period (fate.Surrendered own) = period == own
is_for period fate.Deleted = false

-- the row is a surrender (or a deletion) of this kind, and was not reversed
abbrev pub counts : Retirement → AllowanceKind → RetirementRow → Bool
counts way kind row = is_same_retirement (retirement_of row.fate) way
    && (is_same_kind row.kind kind && not row.reversed)

-- what a row adds to the surrendered (or deleted) amount of a kind
abbrev pub amount_in : Retirement → AllowanceKind → RetirementRow → ℕ
amount_in way kind row = if counts way kind row then row.amount else 0

-- the surrendered (or deleted) amount of a kind: the sum over the rows that were not reversed
abbrev pub retired_in : Retirement → AllowanceKind → List RetirementRow → ℕ
retired_in way kind rows = sum_by (amount_in way kind) rows

-- what a row adds to the allowances that were surrendered for a period, of whichever kind
abbrev pub amount_for : ℕ → RetirementRow → ℕ
amount_for period row = if is_for period row.fate && not row.reversed then row.amount else 0

-- the allowances of both kinds that were surrendered for a period: the sum over the rows that were not reversed
abbrev pub surrendered_in : ℕ → List RetirementRow → ℕ
surrendered_in period rows = sum_by (amount_for period) rows

-- the numbers of the rows, in their order
abbrev pub row_numbers : List RetirementRow → List ℕ
row_numbers rows = map (λ row. row.number) rows

-- the row with this number
abbrev pub row_in : List RetirementRow → ℕ → Option RetirementRow
row_in rows number = find (λ row. row.number == number) rows

-- a row, marked as reversed if it has this number
abbrev pub marked_reversed : ℕ → RetirementRow → RetirementRow
marked_reversed number row = if row.number == number then record row { reversed = true } else row

-- the rows, with the one of this number marked as reversed
abbrev pub with_mark : ℕ → List RetirementRow → List RetirementRow
with_mark number rows = map (marked_reversed number) rows

-- each number is below this one
abbrev pub AreBelow : ℕ → List ℕ → Type 0
AreBelow limit numbers = AllByRecursion (λ n. n < limit) numbers

-- the period of a surrender is from 1 to the most periods that there may be
abbrev pub FateFits : Fate → Type 0
FateFits (fate.Surrendered period) = IsWithin 1 MOST_PERIODS period
FateFits fate.Deleted = ⊤

-- a row's amount is within its limits, and so is the period of a surrender
pub record RowFits (row : RetirementRow) : Type 0 where
  pub some : 1 ≤ row.amount
  pub most : row.amount ≤ MOST_RETIRED
  pub period : FateFits row.fate

-- a row's record number and date are in their ranges, as each such number is
pub record RowIsInRange (row : RetirementRow) : Type 0 where
  pub number : IsRecordNo row.number
  pub day : IsDayNo row.day

-- rows as an account may have them
pub record RowsFit (rows : List RetirementRow) : Type 0 where
  pub few : length rows ≤ MOST_ROWS
  pub rise : IsRising (row_numbers rows)
  pub each : AllByRecursion RowFits rows
  pub in_range : AllByRecursion RowIsInRange rows

-- each surrendered and each deleted amount is within its limit
pub record RetiredFits (rows : List RetirementRow) : Type 0 where
  pub at : (way : Retirement) (kind : AllowanceKind) → retired_in way kind rows ≤ MOST_RETIRED

-- the period of a surrender is 0, or above the most periods that there may be
abbrev pub is_fate_unfit : Fate → Bool
is_fate_unfit (fate.Surrendered period) = nat_lt period 1 || nat_lt MOST_PERIODS period
is_fate_unfit fate.Deleted = false

-- a row's amount is 0 or too large, or the period of a surrender is outside its limits
abbrev pub is_row_unfit : RetirementRow → Bool
is_row_unfit row = nat_lt row.amount 1 || (nat_lt MOST_RETIRED row.amount || is_fate_unfit row.fate)

-- there are too many rows, their numbers don't rise, or one of them is unfit
abbrev pub are_rows_unfit : List RetirementRow → Bool
are_rows_unfit rows = nat_lt MOST_ROWS (length rows)
    || (not (is_rising_from 0 (row_numbers rows)) || list_any is_row_unfit rows)

-- the surrendered (or deleted) amount of a kind is above its limit
abbrev pub is_too_much : List RetirementRow → Retirement → Bool
is_too_much rows way = nat_lt MOST_RETIRED (retired_in way General rows)
    || nat_lt MOST_RETIRED (retired_in way Aviation rows)

-- a surrendered or a deleted amount is above its limit
abbrev pub is_too_much_retired : List RetirementRow → Bool
is_too_much_retired rows = is_too_much rows Surrendered || is_too_much rows Deleted
