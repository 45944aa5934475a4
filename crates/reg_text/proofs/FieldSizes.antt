-- How many bytes a field takes at most, and at least.
use Rattle.std.proofs.Common.{ℕ, zero, suc, ◌+◌, ◌/◌, ◌%◌, ◌<◌, ◌≤◌, Bool, true, false, cond, eqb, List, [], ◌∷◌}
use Rattle.std.proofs.Common.{length, refl, arith, ℤ, pos, negsuc, unsigned_abs, ◌≡◌, nat_le}
use Rattle.std.specs.Fmt.{decimal, digit_glyph, digits, digits_onto, signed_decimal}
use Rattle.std.proofs.lemmas.Bool.{leb-true}
use Rattle.std.proofs.lemmas.Fmt.{length-decimal-le, length-decimal-le_wide}
use Rattle.reg_base.specs.Numbers.{IsWithin}
use Rattle.reg_base.specs.declared.limits.TheConstants.{FIRST_YEAR, LAST_YEAR, MOST_NUMBER, MOST_PERIODS}
use Rattle.reg_base.specs.declared.limits.TheConstants.{MOST_RECORD}
use Rattle.reg_base.specs.declared.kinds.AllowanceKind.{AllowanceKind}
use Rattle.reg_base.specs.declared.kinds.AllowanceKind.TheVariants.{General}
use Rattle.reg_base.specs.declared.kinds.AccountKind.{AccountKind}
use Rattle.reg_base.specs.declared.kinds.AccountKind.TheVariants.{Total}
use Rattle.reg_base.specs.declared.kinds.Status.{Status}
use Rattle.reg_base.specs.declared.kinds.Status.TheVariants.{Opened}
use Rattle.reg_base.specs.declared.kinds.Right.{Right}
use Rattle.reg_base.specs.declared.kinds.Right.TheVariants.{Both}
use Rattle.reg_base.specs.declared.kinds.Retirement.{Retirement}
use Rattle.reg_base.specs.declared.kinds.Retirement.TheVariants.{Deleted}
use Rattle.reg_base.specs.declared.refusals.Refusal.{Refusal}
use Rattle.reg_base.specs.declared.refusals.Refusal.TheVariants.{UnknownAccount}
use Rattle.reg_base.specs.Refusals.{code_of, refusal_name}
use Rattle.reg_text.proofs.Names.{CorrectionFits, FigureFits, date, yes_no_word}
use Rattle.reg_text.proofs.NumberLaws.{digits-range}
use Rattle.reg_base.specs.Words.{account_kind_name, allowance_kind_name, retirement_name, right_name, status_name}

-- ---- numbers

either-longer : (b : Bool) (least : ℕ) (f g : List ℕ) → least ≤ length f → least ≤ length g
    → least ≤ length (cond b f g)
either-longer true least f g h k = h
either-longer false least f g h k = k

onto-longer : (k n : ℕ) (f : List ℕ) → length f ≤ length (digits_onto k 10 false n f)
onto-longer zero n f = omega arith
onto-longer (suc k) n f =
    let more = digit_glyph false (n % 10) ∷ f in
    either-longer (eqb (n / 10) 0) (length f) more (digits_onto k 10 false (n / 10) more) (omega arith)
    (omega (arith, onto-longer k (n / 10) more))

-- a number has a digit
pub number-some : (n : ℕ) → 1 ≤ length (decimal n)
unfolding digits
number-some n =
    let one = digit_glyph false (n % 10) ∷ [] in
    either-longer (eqb (n / 10) 0) 1 one (digits_onto 63 10 false (n / 10) one) (omega arith)
    (onto-longer 63 (n / 10) one)

-- these numbers have at most so many
pub no-most : (n : ℕ) → IsWithin 1 MOST_NUMBER n → length (decimal n) ≤ 9
no-most n h = length-decimal-le 9 n (omega arith) (omega (arith, h.high)) (omega (arith, h.high))

pub next-most : (n : ℕ) → n ≤ MOST_RECORD + 1 → length (decimal n) ≤ 16
next-most n h = length-decimal-le 16 n (omega arith) (omega (arith, h)) (omega (arith, h))

pub amount-most : (n : ℕ) → n ≤ MOST_RECORD → length (decimal n) ≤ 16
amount-most n h = next-most n (omega (arith, h))

pub year-most : (n : ℕ) → IsWithin FIRST_YEAR LAST_YEAR n → length (decimal n) ≤ 4
year-most n h = length-decimal-le 4 n (omega arith) (omega (arith, h.high)) (omega (arith, h.high))

pub digit-most : (n : ℕ) → n ≤ MOST_PERIODS → length (decimal n) ≤ 1
digit-most n h = length-decimal-le 1 n (omega arith) (omega (arith, h)) (omega (arith, h))

pub sum-most : (n : ℕ) → n < 1_000_000_000_000_000_000_000 → length (decimal n) ≤ 21
sum-most n h = length-decimal-le_wide 21 n (omega arith) (omega (arith, h)) (omega (arith, h))

signed-most : (z : ℤ) → unsigned_abs z ≤ 4_000_000_000_000_000 → length (signed_decimal z) ≤ 17
signed-most (pos n) h = omega (arith, length-decimal-le 16 n (omega arith) (omega (arith, h)) (omega (arith, h)))
signed-most (negsuc n) h =
    omega (arith, length-decimal-le 16 (suc n) (omega arith) (omega (arith, h)) (omega (arith, h)))

pub factor-most : (z : ℤ) → CorrectionFits z → length (signed_decimal z) ≤ 17
factor-most z h = signed-most z (omega (arith, digits-range 1_000_000_000_000_000 z h.low h.high))

pub figure-most : (z : ℤ) → FigureFits z → length (signed_decimal z) ≤ 17
figure-most z h = signed-most z (digits-range 4_000_000_000_000_000 z h.low h.high)

pub date-size : (n : ℕ) → length (date n) ≡ 10
unfolding date
date-size n = refl

-- ---- words

pub kind-size : (k : AllowanceKind) → IsWithin 7 8 (length (allowance_kind_name k))
kind-size General = record { low = omega arith; high = omega arith }
kind-size k = record { low = omega arith; high = omega arith }

pub account_kind-size : (k : AccountKind) → IsWithin 5 10 (length (account_kind_name k))
account_kind-size Total = record { low = omega arith; high = omega arith }
account_kind-size k = record { low = omega arith; high = omega arith }

pub status-size : (s : Status) → IsWithin 4 8 (length (status_name s))
status-size Opened = record { low = omega arith; high = omega arith }
status-size s = record { low = omega arith; high = omega arith }

pub right-size : (r : Right) → IsWithin 4 7 (length (right_name r))
right-size Both = record { low = omega arith; high = omega arith }
right-size r = record { low = omega arith; high = omega arith }

pub retirement-size : (w : Retirement) → IsWithin 8 9 (length (retirement_name w))
retirement-size Deleted = record { low = omega arith; high = omega arith }
retirement-size w = record { low = omega arith; high = omega arith }

pub yes_no-most : (b : Bool) → length (yes_no_word b) ≤ 3
yes_no-most true = omega arith
yes_no-most false = omega arith

code-few : (q : Refusal) → nat_le (code_of q) 99 ≡ true
code-few UnknownAccount = refl
code-few q = refl

pub code-most : (q : Refusal) → length (decimal (code_of q)) ≤ 2
code-most q = let few = leb-true (code_of q) 99 (code-few q) in
    length-decimal-le 2 (code_of q) (omega arith) (omega (arith, few)) (omega (arith, few))

name-short : (q : Refusal) → nat_le (length (refusal_name q)) 23 ≡ true
name-short UnknownAccount = refl
name-short q = refl

pub name-most : (q : Refusal) → length (refusal_name q) ≤ 23
name-most q = leb-true (length (refusal_name q)) 23 (name-short q)
