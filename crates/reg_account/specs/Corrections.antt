-- Correction factors of later periods, by rising period.
use Rattle.std.specs.Prelude.{◌≡◌, ℕ, ℤ, pos, ◌≤ℤ◌, ◌-ℤ◌, Bool, false, not, ◌==◌, ◌||◌, nat_lt, int_lt, List, map, find}
use Rattle.std.specs.Ordering.{int_eq}
use Rattle.std.specs.Option.{option_map_or}
use Rattle.std.specs.List.{AllByRecursion, list_any}
use Rattle.reg_base.specs.declared.limits.TheConstants.{MOST_CORRECTION, MOST_PERIODS}
use Rattle.reg_base.specs.Numbers.{IsWithin}
use Rattle.reg_base.specs.Rising.{IsRising, is_rising_from}
use Rattle.reg_account.specs.declared.corrections.Correction.{Correction}

-- the periods that have a factor, in their order
abbrev pub correction_periods : List Correction → List ℕ
correction_periods corrections = map (λ c. c.period) corrections

-- the factor of a period in tonnes, 0 if the list has none for it
abbrev pub factor_in : List Correction → ℕ → ℤ
factor_in corrections period = option_map_or (λ c. c.factor) (find (λ c. c.period == period) corrections) (pos 0)

-- a correction factor is within its limits
pub record CorrectionFits (correction : ℤ) : Type 0 where
  pub low : (pos 0 -ℤ MOST_CORRECTION) ≤ℤ correction
  pub high : correction ≤ℤ MOST_CORRECTION

-- a period after the first has a factor that is not 0 and within its limits
pub record LaterFits (c : Correction) : Type 0 where
  pub later : IsWithin 2 MOST_PERIODS c.period
  pub some : int_eq c.factor (pos 0) ≡ false
  pub factor : CorrectionFits c.factor

-- the factors of later periods as an account may have them
pub record CorrectionsFit (corrections : List Correction) : Type 0 where
  pub rise : IsRising (correction_periods corrections)
  pub each : AllByRecursion LaterFits corrections

-- a factor is too small or too large
abbrev pub is_factor_unfit : ℤ → Bool
is_factor_unfit factor = int_lt factor (pos 0 -ℤ MOST_CORRECTION) || int_lt MOST_CORRECTION factor

-- the period is not a later one, or the factor is 0, too small or too large
abbrev pub is_later_unfit : Correction → Bool
is_later_unfit c = (nat_lt c.period 2 || nat_lt MOST_PERIODS c.period)
    || (int_eq c.factor (pos 0) || is_factor_unfit c.factor)

-- the periods don't rise, or one of them or its factor is unfit
abbrev pub are_corrections_unfit : List Correction → Bool
are_corrections_unfit corrections =
    not (is_rising_from 0 (correction_periods corrections)) || list_any is_later_unfit corrections
