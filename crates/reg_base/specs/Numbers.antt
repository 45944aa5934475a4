-- The ranges of the numbers that the registry uses.
use Rattle.std.specs.Prelude.{ℕ, ◌≤◌}
use Rattle.reg_base.specs.declared.limits.TheConstants.{MOST_NUMBER, MOST_RECORD, FIRST_DAY, LAST_DAY, FIRST_YEAR}
use Rattle.reg_base.specs.declared.limits.TheConstants.{LAST_YEAR}

-- the number is not below the lowest, and not above the highest
pub record IsWithin (lowest highest n : ℕ) : Type 0 where
  pub low : lowest ≤ n
  pub high : n ≤ highest

abbrev pub IsAccountNo : ℕ → Type 0
IsAccountNo n = IsWithin 1 MOST_NUMBER n

abbrev pub IsUserNo : ℕ → Type 0
IsUserNo n = IsWithin 1 MOST_NUMBER n

abbrev pub IsHolderNo : ℕ → Type 0
IsHolderNo n = IsWithin 1 MOST_NUMBER n

abbrev pub IsRecordNo : ℕ → Type 0
IsRecordNo n = IsWithin 1 MOST_RECORD n

-- days are counted from 1970-01-01
abbrev pub IsDayNo : ℕ → Type 0
IsDayNo n = IsWithin FIRST_DAY LAST_DAY n

abbrev pub IsYearNo : ℕ → Type 0
IsYearNo n = IsWithin FIRST_YEAR LAST_YEAR n
