-- The compliance status figure of a year: the allowances of both kinds surrendered for the period of the year, minus
-- the emissions of the years from the first of the period up to this one, plus the correction factor of the period.
use Rattle.std.specs.Prelude.{ℕ, ◌+◌, ◌-◌, ℤ, pos, ◌+ℤ◌, ◌-ℤ◌, Bool, false, not, ◌&&◌, List, [], find, Option, Some}
use Rattle.std.specs.Prelude.{None, Result, Ok, Err, unwrap_or, is_none, if◌then◌else◌}
use Rattle.std.specs.List.{sum_by}
use Rattle.std.specs.Option.{option_map_or}
use Rattle.reg_base.specs.Rules.{RulesValue, period_of, period_with, is_year_of, is_in_period}
use Rattle.reg_base.specs.Rising.{count_up}
use Rattle.reg_account.specs.declared.rows.Fate.{Fate}
use Rattle.reg_account.specs.declared.rows.Fate.TheVariants as fate
use Rattle.reg_account.specs.declared.rows.RetirementRow.{RetirementRow}
use Rattle.reg_account.specs.declared.figure.FigureFault.{FigureFault}
use Rattle.reg_account.specs.declared.figure.FigureFault.TheVariants.{YearOutsidePeriod, Missing}
use Rattle.reg_account.specs.Years.{emissions_in}
use Rattle.reg_account.specs.Account.{AccountValue, correction_of}

-- the years from the first of a period up to this one
abbrev pub years_from : ℕ → ℕ × ℕ → List ℕ
years_from year period = count_up period.0 (year + 1 - period.0)

-- which years count for the figure of a year: those of its period up to and including it
abbrev pub years_counted : RulesValue → ℕ → List ℕ
years_counted rules year = option_map_or (years_from year) (period_with rules year) []

-- allowances of this fate were surrendered for the period of the year
abbrev pub is_for_year : RulesValue → ℕ → Fate → Bool
is_for_year rules year (fate.Surrendered period) = is_year_of rules period year
is_for_year rules year fate.Deleted = false

-- which rows count for the figure of a year: the surrenders for its period that were not reversed
abbrev pub is_row_counted : RulesValue → ℕ → RetirementRow → Bool
is_row_counted rules year row = is_for_year rules year row.fate && not row.reversed

-- which correction factor is added to the figure of a year: that of its period
abbrev pub correction_added : RulesValue → AccountValue → ℕ → ℤ
correction_added rules a year = option_map_or (correction_of a) (period_of rules year) (pos 0)

-- the allowances of both kinds that were surrendered for the period of the year
abbrev pub surrendered_for_year : RulesValue → AccountValue → ℕ → ℕ
surrendered_for_year rules a year = sum_by (λ row. if is_row_counted rules year row then row.amount else 0) a.rows

-- the emissions of these years, in tonnes
abbrev pub emitted_in : AccountValue → List ℕ → ℕ
emitted_in a years = sum_by (λ year. unwrap_or (emissions_in a.emissions year) 0) years

-- the first of these years without emissions
abbrev pub first_missing : AccountValue → List ℕ → Option ℕ
first_missing a years = find (λ year. is_none (emissions_in a.emissions year)) years

-- the emissions of these years, unless one of them has none
abbrev pub emitted_unless : AccountValue → List ℕ → Option ℕ → Result ℕ FigureFault
emitted_unless a years (Some missing) = Err (Missing missing)
emitted_unless a years None = Ok (emitted_in a years)

abbrev pub emitted_or_missing : AccountValue → List ℕ → Result ℕ FigureFault
emitted_or_missing a years = emitted_unless a years (first_missing a years)

-- the figure, given the emissions of the years that count
abbrev pub figure_with : RulesValue → AccountValue → ℕ → ℕ → ℤ
figure_with rules a year emitted =
    pos (surrendered_for_year rules a year) -ℤ pos emitted +ℤ correction_added rules a year

abbrev pub figure_by : RulesValue → AccountValue → ℕ → Result ℕ FigureFault → Result ℤ FigureFault
figure_by rules a year (Ok emitted) = Ok (figure_with rules a year emitted)
figure_by rules a year (Err fault) = Err fault

-- the compliance status figure of a year, unless no period has the year or the emissions of a year are missing
abbrev pub figure_of : RulesValue → AccountValue → ℕ → Result ℤ FigureFault
figure_of rules a year = if is_in_period rules year
    then figure_by rules a year (emitted_or_missing a (years_counted rules year)) else Err YearOutsidePeriod
