-- Laws of the changes.
use Rattle.std.specs.Prelude.{◌≡◌, ℕ, ◌+◌, ◌≤◌, ℤ, pos, ◌-ℤ◌, ◌==◌, Some, None, Result, Ok, Err, if◌then◌else◌}
use Rattle.reg_base.specs.declared.limits.TheConstants.{MOST_HELD}
use Rattle.reg_base.specs.declared.kinds.AllowanceKind.{AllowanceKind}
use Rattle.reg_base.specs.declared.kinds.Status.{Status}
use Rattle.reg_base.specs.Rules.{RulesValue}
use Rattle.reg_base.specs.declared.kinds.Retirement.TheVariants.{Surrendered, Deleted}
use Rattle.reg_account.specs.declared.trusted.TrustedEntry.{TrustedEntry}
use Rattle.reg_account.specs.declared.rows.RetirementRow.{RetirementRow}
use Rattle.reg_account.specs.declared.years.Emission.{Emission}
use Rattle.reg_account.specs.declared.years.Figure.{Figure}
use Rattle.reg_account.specs.declared.figure.FigureFault.{FigureFault}
use Rattle.reg_account.specs.Trusted.{effective_in, EntryIsInRange}
use Rattle.reg_account.specs.Rows.{is_same_kind, amount_in, row_in, FateFits, RowIsInRange}
use Rattle.reg_account.specs.Years.{emissions_in, figure_in, FigureFits, EmissionFits, EmissionIsInRange}
use Rattle.reg_account.specs.Years.{FigureIsInRange}
use Rattle.reg_account.specs.Account.{AccountValue, held_by, retired_by, credited, debited, retired, unretired}
use Rattle.reg_account.specs.Account.{with_trusted, without_trusted, with_status, with_emissions, with_determined}
use Rattle.reg_account.specs.Account.{CanTrust, CanRetire, CanUnretire, CanUnretireRow, IsAccount}
use Rattle.reg_account.specs.Figure.{figure_of, is_row_counted}

-- each change keeps an account within its limits
pub record ChangesKeepLimits : Type 0 where
  pub credit : (a : AccountValue) (kind : AllowanceKind) (amount : ℕ) → IsAccount a
      → held_by a kind + amount ≤ MOST_HELD → IsAccount (credited a kind amount)
  pub debit : (a : AccountValue) (kind : AllowanceKind) (amount : ℕ) → IsAccount a → IsAccount (debited a kind amount)
  pub retire : (a : AccountValue) (row : RetirementRow) → IsAccount a → CanRetire a row → FateFits row.fate
      → RowIsInRange row → IsAccount (retired a row)
  pub unretire : (a : AccountValue) (number : ℕ) → IsAccount a → CanUnretire a number → IsAccount (unretired a number)
  pub trust : (a : AccountValue) (new : TrustedEntry) → IsAccount a → CanTrust a → EntryIsInRange new
      → IsAccount (with_trusted a new)
  pub untrust : (a : AccountValue) (other : ℕ) → IsAccount a → IsAccount (without_trusted a other)
  pub set_status : (a : AccountValue) (status : Status) → IsAccount a → IsAccount (with_status a status)
  pub set_emissions : (a : AccountValue) (new : Emission) → IsAccount a → EmissionFits new → EmissionIsInRange new
      → IsAccount (with_emissions a new)
  pub determine : (a : AccountValue) (new : Figure) → IsAccount a → FigureFits new.tonnes → FigureIsInRange new
      → IsAccount (with_determined a new)

-- the allowances of a kind that the account holds, and those that it has surrendered
abbrev pub counted : AllowanceKind → AccountValue → ℕ
counted kind a = held_by a kind + retired_by a Surrendered kind

-- an amount of the kind `own`, as far as it counts for `kind`: all of it if they are one kind, else 0
abbrev pub of_kind : AllowanceKind → AllowanceKind → ℕ → ℕ
of_kind kind own amount = if is_same_kind own kind then amount else 0

-- what changes make of this number: a credit adds its amount, a debit takes it off; a surrender leaves the number as it
-- is, a deletion takes its amount off, and a reversal undoes what its row did
pub record NumberLaws : Type 0 where
  pub credit : (a : AccountValue) (own : AllowanceKind) (amount : ℕ) (kind : AllowanceKind)
      → counted kind (credited a own amount) ≡ counted kind a + of_kind kind own amount
  pub debit : (a : AccountValue) (own : AllowanceKind) (amount : ℕ) (kind : AllowanceKind) → amount ≤ held_by a own
      → counted kind (debited a own amount) + of_kind kind own amount ≡ counted kind a
  pub retire : (a : AccountValue) (row : RetirementRow) (kind : AllowanceKind) → CanRetire a row
      → counted kind (retired a row) + amount_in Deleted kind row ≡ counted kind a
  pub unretire : (a : AccountValue) (number : ℕ) (row : RetirementRow) (kind : AllowanceKind) → IsAccount a
      → row_in a.rows number ≡ Some row → CanUnretireRow a row
      → counted kind (unretired a number) ≡ counted kind a + amount_in Deleted kind row

-- to put an account on the trusted account list, or take it off, changes its own entry alone
pub record TrustLaws : Type 0 where
  pub trust : (a : AccountValue) (new : TrustedEntry) (other : ℕ) → IsAccount a
      → effective_in (with_trusted a new).trusted other
      ≡ (if new.account == other then Some new.effective else effective_in a.trusted other)
  pub untrust : (a : AccountValue) (gone other : ℕ)
      → effective_in (without_trusted a gone).trusted other
      ≡ (if gone == other then None else effective_in a.trusted other)

-- to set the emissions (or the determined figure) of a year changes those of this year alone
pub record YearLaws : Type 0 where
  pub set_emissions : (a : AccountValue) (new : Emission) (year : ℕ) → IsAccount a
      → emissions_in (with_emissions a new).emissions year
      ≡ (if new.year == year then Some new.tonnes else emissions_in a.emissions year)
  pub determine : (a : AccountValue) (new : Figure) (year : ℕ) → IsAccount a
      → figure_in (with_determined a new).figures year
      ≡ (if new.year == year then Some new.tonnes else figure_in a.figures year)

-- the figure, if there is one, lowered by this amount
abbrev pub lowered_by : ℕ → Result ℤ FigureFault → Result ℤ FigureFault
lowered_by amount (Ok figure) = Ok (figure -ℤ pos amount)
lowered_by amount (Err fault) = Err fault

-- a reversal lowers the figure of a year by the amount of the row, if the row counts for it, and else leaves it
pub record FigureLaws : Type 0 where
  pub unretire : (rules : RulesValue) (a : AccountValue) (number : ℕ) (row : RetirementRow) (year : ℕ) → IsAccount a
      → row_in a.rows number ≡ Some row
      → figure_of rules (unretired a number) year
      ≡ lowered_by (if is_row_counted rules year row then row.amount else 0) (figure_of rules a year)
