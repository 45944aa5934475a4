-- Numbers as the texts spell them, and what it means to read one.
use Rattle.std.specs.Prelude.{◌≡◌, ◌↔◌, ℕ, Bool, true, false, ◌&&◌, ◌==◌, not, if◌then◌else◌, List, [], ◌∷◌}
use Rattle.std.specs.Prelude.{Result, Ok, Err, decimal}
use Rattle.std.specs.Str.{all_ascii_digits}
use Rattle.std.specs.Str.Parse.{digits_value}
use Rattle.reg_base.specs.declared.digits.NumberFault.{NumberFault}
use Rattle.reg_base.specs.declared.digits.NumberFault.TheVariants.{NotANumber, OutOfRange}
use Rattle.reg_base.specs.Numbers.{IsWithin}
use Rattle.reg_base.specs.Periods.{is_within}

-- the text is not empty, and does not begin with a 0 and go on (48 is the digit 0)
abbrev pub starts_well : List ℕ → Bool
starts_well [] = false
starts_well (d ∷ []) = true
starts_well (d ∷ e ∷ ds) = not (d == 48)

-- the text spells a number: decimal digits, without a sign and without superfluous leading zeros
abbrev pub is_number : List ℕ → Bool
is_number text = starts_well text && all_ascii_digits text

-- the number that these digits spell
abbrev pub spelled_number : List ℕ → ℕ
spelled_number text = digits_value 10 text

-- the number that the text spells, if it spells one, and this is within its limits
abbrev pub number_read : ℕ → ℕ → List ℕ → Result ℕ NumberFault
number_read lowest highest text =
    if is_number text
    then (if is_within (lowest, highest) (spelled_number text) then Ok (spelled_number text) else Err OutOfRange)
    else Err NotANumber

-- the answer is what the text spells; and it is a number exactly if the text is what this number is written as
pub record ReadsNumber (lowest highest : ℕ) (text : List ℕ) (answer : Result ℕ NumberFault) : Type 0 where
  pub read : answer ≡ number_read lowest highest text
  pub written : (n : ℕ) → (answer ≡ Ok n) ↔ (IsWithin lowest highest n × (text ≡ decimal n))
