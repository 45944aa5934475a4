-- The limits of this profile, each as a number.
use Rattle.std.specs.Prelude.{◌≡◌, pos}
use Rattle.reg_base.specs.declared.limits.TheConstants.{MOST_ACCOUNTS, MOST_INSTRUCTIONS, MOST_ADMINISTRATORS}
use Rattle.reg_base.specs.declared.limits.TheConstants.{MOST_NUMBER, MOST_RECORD, MOST_HELD, MOST_RETIRED, MOST_USERS}
use Rattle.reg_base.specs.declared.limits.TheConstants.{MOST_TRUSTED, MOST_ROWS, MOST_EMISSIONS, MOST_FIGURE}
use Rattle.reg_base.specs.declared.limits.TheConstants.{MOST_CORRECTION, MOST_LAG, FIRST_YEAR, LAST_YEAR, FIRST_DAY}
use Rattle.reg_base.specs.declared.limits.TheConstants.{LAST_DAY, MOST_SHARES, MOST_TOUCHED, MOST_PERIODS}

-- law: each limit is this number
pub record LimitsAreTheseNumbers : Type 0 where
  pub accounts : MOST_ACCOUNTS ≡ 100000
  pub instructions : MOST_INSTRUCTIONS ≡ 16384
  pub administrators : MOST_ADMINISTRATORS ≡ 64
  pub number : MOST_NUMBER ≡ 999999999
  pub record_number : MOST_RECORD ≡ 1000000000000000
  pub held : MOST_HELD ≡ 1000000000000000
  pub retired : MOST_RETIRED ≡ 1000000000000000
  pub users : MOST_USERS ≡ 64
  pub trusted : MOST_TRUSTED ≡ 256
  pub rows : MOST_ROWS ≡ 4096
  pub emissions : MOST_EMISSIONS ≡ 1000000000000
  pub figure : MOST_FIGURE ≡ pos 4000000000000000
  pub correction : MOST_CORRECTION ≡ pos 1000000000000000
  pub lag : MOST_LAG ≡ 1000
  pub first_year : FIRST_YEAR ≡ 2021
  pub last_year : LAST_YEAR ≡ 2100
  pub first_day : FIRST_DAY ≡ 18628
  pub last_day : LAST_DAY ≡ 47846
  pub shares : MOST_SHARES ≡ 8
  pub touched : MOST_TOUCHED ≡ 9
  pub periods : MOST_PERIODS ≡ 8
