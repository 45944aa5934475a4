-- The periods of the rules, each by its first and its last year.
use Rattle.std.specs.Prelude.{ℕ, ◌≤◌, Bool, ◌&&◌, nat_le, nat_lt, List, map, length}
use Rattle.std.specs.List.{AllByRecursion}
use Rattle.reg_base.specs.declared.limits.TheConstants.{MOST_PERIODS}
use Rattle.reg_base.specs.Numbers.{IsWithin}
use Rattle.reg_base.specs.Rising.{AreAbove}

-- the first years of the periods, and their last years
abbrev pub first_years : List (ℕ × ℕ) → List ℕ
first_years periods = map (λ p. p.0) periods

abbrev pub last_years : List (ℕ × ℕ) → List ℕ
last_years periods = map (λ p. p.1) periods

-- the year is in the period
abbrev pub is_within : ℕ × ℕ → ℕ → Bool
is_within period year = nat_le period.0 year && nat_le year period.1

-- the last year of the period is before its first
abbrev pub is_period_reversed : ℕ × ℕ → Bool
is_period_reversed period = nat_lt period.1 period.0

-- each period begins after the one before it has ended
abbrev pub PeriodsRise : List (ℕ × ℕ) → Type 0
PeriodsRise periods = AreAbove (last_years periods) (first_years periods)

-- one period to eight; none ends before it begins, and each begins after the one before it has ended
pub record ArePeriods (periods : List (ℕ × ℕ)) : Type 0 where
  pub some : 1 ≤ length periods
  pub few : length periods ≤ MOST_PERIODS
  pub each : AllByRecursion (λ p. p.0 ≤ p.1) periods
  pub rise : PeriodsRise periods

-- this is the number of a period, counted from 1
abbrev pub IsPeriodOf : List (ℕ × ℕ) → ℕ → Type 0
IsPeriodOf periods number = IsWithin 1 (length periods) number
