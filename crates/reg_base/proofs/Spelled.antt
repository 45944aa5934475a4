-- A text is read as a number exactly if it is what the number is written as.
use Rattle.std.proofs.Common.{◌≡◌, ℕ, ◌^◌, ◌<◌, ◌≤◌, Bool, true, false, not, cond, eqb}
use Rattle.std.proofs.Common.{nat_le, nat_lt, List, [], ◌∷◌, length, get_or, Result, Ok, Err, Option, Some, None, refl}
use Rattle.std.proofs.Common.{sym, ap, ◌∙◌, arith}
use Rattle.std.proofs.lemmas.Bool.{and_parts, leb-true, le-leb, lt-ltb, le-ltb, ne_eqb, not-true, eqb-false}
use Rattle.std.proofs.lemmas.Bool.Decides.{nat_tests}
use Rattle.std.proofs.lemmas.Fmt.{decimal-digits_value, digits_decimal, digits_value-decimal, decimal_nonempty}
use Rattle.std.proofs.lemmas.Fmt.{first_decimal}
use Rattle.std.proofs.lemmas.Str.Parse.{IsNumeralModel, numerals_by_value, tells_all_ascii_digits, parse_digits}
use Rattle.std.specs.Fmt.{decimal}
use Rattle.std.specs.Prelude.{IsSome, IfSome, ok_or}
use Rattle.std.specs.Result.{OkIff, result_ok}
use Rattle.std.specs.Str.{all_ascii_digits}
use Rattle.std.specs.Str.Parse.{ParsesUnsigned}
use Rattle.reg_base.specs.declared.digits.NumberFault.{NumberFault}
use Rattle.reg_base.specs.declared.digits.NumberFault.TheVariants.{NotANumber, OutOfRange}
use Rattle.reg_base.specs.Numbers.{IsWithin}
use Rattle.reg_base.specs.Periods.{is_within}
use Rattle.reg_base.specs.Digits.{starts_well, is_number, spelled_number, number_read, ReadsNumber}

own : IsNumeralModel (λ ds. all_ascii_digits ds ≡ true) spelled_number
own = numerals_by_value _ tells_all_ascii_digits

-- the first digit of a number
first_digit : (text : List ℕ) → starts_well text ≡ true → (0 < length text) × (get_or text 0 0 ≡ 48 → length text ≡ 1)
first_digit [] h = absurd cc
first_digit (d ∷ []) h = (omega arith, λ e. refl)
first_digit (d ∷ e ∷ ds) h = (omega arith, λ zero-first. absurd (eqb-false d 48 (not-true (eqb d 48) h) zero-first))

above_zero : (text : List ℕ) → 0 < length text → 48 < get_or text 0 0 → starts_well text ≡ true
above_zero [] h k = absurd (omega arith)
above_zero (d ∷ []) h k = refl
above_zero (d ∷ e ∷ ds) h k = ap not (ne_eqb d 48 (λ same. omega arith))

-- what `parse` gives of a number
parsed-as : {E : Type 0} (v : ℕ) (P : Type 0) (r : Result ℕ E) → P → OkIff r (P × (v < 2 ^ 64)) v
    → result_ok r ≡ cond (nat_lt v (2 ^ 64)) (Some v) None
parsed-as v P (Ok n) p h = rw (lt-ltb v (2 ^ 64) h.0.1) (ap Some h.1)
parsed-as v P (Err e) p h = rw (le-ltb v (2 ^ 64) (omega (arith, λ (below : v < 2 ^ 64). h (p, below)))) refl

pub parsed : {E : Type 0} (text : List ℕ) (r : Result ℕ E) → is_number text ≡ true → ParsesUnsigned 64 10 text r
    → result_ok r ≡ cond (nat_lt (spelled_number text) (2 ^ 64)) (Some (spelled_number text)) None
parsed text r h parses =
    let both = and_parts (starts_well text) (all_ascii_digits text) h in
    let first = first_digit text both.0 in
    parsed-as (spelled_number text) (0 < length text) r first.0 (parse_digits own 64 text r parses both.1)

-- a number of more than 64 bits is within no limits
pub too_large : (lowest highest n : ℕ) → highest < 2 ^ 64 → nat_lt n (2 ^ 64) ≡ false
    → is_within (lowest, highest) n ≡ false
too_large lowest highest n small large = grind (arith, nat_tests)

-- what was read as a number
by_tests : (spells within : Bool) (v n : ℕ)
    → cond spells (cond within (Ok v) (Err OutOfRange)) (Err NotANumber) ≡ Ok n
    → (spells ≡ true) × (within ≡ true) × (v ≡ n)
by_tests true true v n e = (refl, refl, cc)
by_tests true false v n e = absurd cc
by_tests false within v n e = absurd cc

spelled : (lowest highest : ℕ) (text : List ℕ) (n : ℕ) → highest < 2 ^ 64 → number_read lowest highest text ≡ Ok n
    → IsWithin lowest highest n × (text ≡ decimal n)
spelled lowest highest text n small e =
    let v = spelled_number text in
    let tests = by_tests (is_number text) (is_within (lowest, highest) v) v n e in
    let both = and_parts (starts_well text) (all_ascii_digits text) tests.0 in
    let range = and_parts (nat_le lowest (spelled_number text)) (nat_le (spelled_number text) highest) tests.1 in
    let low : lowest ≤ spelled_number text = leb-true _ _ range.0 in
    let high : spelled_number text ≤ highest = leb-true _ _ range.1 in
    let first = first_digit text both.0 in
    let same : decimal v ≡ text = decimal-digits_value own text both.1 first.0 first.1 (omega arith) in
    (record { low = rw (← tests.2) low; high = rw (← tests.2) high }, sym same ∙ ap decimal tests.2)

-- what a number is written as
again : (lowest highest n : ℕ) → 1 ≤ lowest → highest < 2 ^ 64 → IsWithin lowest highest n
    → number_read lowest highest (decimal n) ≡ Ok n
again lowest highest n positive small within =
    let below : n < 2 ^ 64 = omega (arith, within.low, within.high) in
    let starts : starts_well (decimal n) ≡ true =
    above_zero (decimal n) (decimal_nonempty n below) (first_decimal n (omega (arith, within.low)) below) in
    let digits : all_ascii_digits (decimal n) ≡ true = digits_decimal own n below in
    let value : spelled_number (decimal n) ≡ n = digits_value-decimal own n below in
    rw (starts, digits, value, le-leb lowest n within.low, le-leb n highest within.high) refl

pub reads : (lowest highest : ℕ) (text : List ℕ) (answer : Result ℕ NumberFault) → 1 ≤ lowest → highest < 2 ^ 64
    → answer ≡ number_read lowest highest text → ReadsNumber lowest highest text answer
reads lowest highest text answer positive small e = record {
  read = e;
  written = λ n. (
    λ ok. spelled lowest highest text n small (sym e ∙ ok),
    λ both. e ∙ ap (number_read lowest highest) both.1 ∙ again lowest highest n positive small both.0,
  );
}

-- a type's own constructor takes what was read
pub made : (lowest highest : ℕ) (text : List ℕ) (n : ℕ) (o : Option ℕ) (fault : NumberFault) → 1 ≤ lowest
    → highest < 2 ^ 64 → number_read lowest highest text ≡ Ok n → (IsWithin lowest highest n → IsSome o)
    → IfSome o (λ x. x ≡ n) → ReadsNumber lowest highest text (ok_or o fault)
made lowest highest text n None fault positive small e some same =
    let none = some (spelled lowest highest text n small e).0 in absurd cc
made lowest highest text n (Some x) fault positive small e some same =
    reads lowest highest text (Ok x) positive small (ap Ok same ∙ sym e)
