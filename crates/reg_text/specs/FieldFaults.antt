-- Which of two causes a field has: it spells no value at all, or one outside the limits.
use Rattle.std.specs.Prelude.{◌≡◌, ◌⊎◌, ℕ, ◌^◌, ◌<◌, ℤ, unsigned_abs, true, List, Result, Err}
use Rattle.reg_text.specs.declared.cause.Cause.{Cause}
use Rattle.reg_text.specs.declared.cause.Cause.TheVariants as cause
use Rattle.reg_text.specs.Numbers.{number}
use Rattle.reg_text.specs.Signed.{signed}
use Rattle.reg_text.specs.Dates.{date_text, is_civil}

-- the spelling of a number below 2^64
abbrev pub IsNumberText : List ℕ → Type 0
IsNumberText f = (n : ℕ) × (f ≡ number n) × (n < 2 ^ 64)

-- the spelling of a signed number whose digits are below 2^64
abbrev pub IsSignedText : List ℕ → Type 0
IsSignedText f = (z : ℤ) × (f ≡ signed z) × (unsigned_abs z < 2 ^ 64)

-- the text of a day that the Gregorian calendar has, in any year of four digits
pub record IsDateText (f : List ℕ) : Type 0 where
  pub year : ℕ
  pub month : ℕ
  pub day : ℕ
  pub small : year < 10_000
  pub civil : is_civil year month day ≡ true
  pub spelled : f ≡ date_text year month day

-- a fault of this reader is the given cause if the field is no such text, and `limit` if it is one
abbrev pub TellsFromLimit : {X : Type 0} → (List ℕ → Result X Cause) → Cause → (List ℕ → Type 0) → Type 0
TellsFromLimit read otherwise IsText =
    (f : List ℕ) (c : Cause) → read f ≡ Err c → ((c ≡ otherwise) × ¬ (IsText f)) ⊎ ((c ≡ cause.Limit) × IsText f)
