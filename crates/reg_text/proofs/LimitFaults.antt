-- A field that is refused spells no value, or one outside the limits, and the cause says which.
use Rattle.std.proofs.Common.{◌≡◌, ◌⊎◌, inl, inr, ℕ, ℤ, pos, negsuc, Bool, not, ◌&&◌, nat_le, unsigned_abs, List}
use Rattle.std.proofs.Common.{Result, Ok, Err, refl, sym, ap, ◌∙◌, arith}
use Rattle.jiff_core.specs.Calendar.{days_from_civil}
use Rattle.reg_text.proofs.Names.{Cause, Codec, IsCodec, any_number, ◌>>=◌, test, signed_correction_of}
use Rattle.reg_text.proofs.Names.{signed_figure_of, year_in, month_in, day_in, is_date_text, is_civil, in_days}
use Rattle.reg_text.proofs.Names.{day_named, date_of, bounded_of, later_factor}
use Rattle.reg_text.specs.declared.cause.Cause.TheVariants as cause
use Rattle.reg_text.specs.FieldFaults.{IsNumberText, IsSignedText, IsDateText, TellsFromLimit}
use Rattle.reg_text.proofs.Binds.{test_err, bind_err, if_err}
use Rattle.reg_text.proofs.GrammarLaws.{any_signed, is-number, is-signed, is-factor}
use Rattle.reg_text.proofs.NumberLaws.{digits-range}
use Rattle.std.specs.Ordering.{int_eq}
use Rattle.reg_text.proofs.DateLaws.{text-of, civil-parts, text-read}
use Rattle.reg_text.proofs.CauseLaws.{Only, only-number, only-signed}

-- the one cause of a reader
only-cause : {X : Type 0} (b c : Cause) (read : Result X Cause) → Only b read → read ≡ Err c → c ≡ b
only-cause b c (Ok x) only e = absurd cc
only-cause b c (Err d) only e = cc

-- ---- numbers and signed numbers

-- a field of a codec, whose value must pass a test
told : {A : Type 0} (c : Codec A) (b : Cause) (holds : A → Bool) → IsCodec c → ((f : List ℕ) → Only b (c.read f))
    → TellsFromLimit (λ f. c.read f >>= λ x. test (holds x) cause.Limit x) b (λ f. (x : A) × (f ≡ c.spell x) × c.Fits x)
told c b holds h only f d e = elim (bind_err (c.read f) (λ x. test (holds x) cause.Limit x) d e) [
  | inl none ↦ inl (only-cause b d (c.read f) (only f) none, λ is. let good = ap c.read is.1 ∙ h.again is.0 is.2 in cc)
  | inr some ↦ let s = h.spelled f some.0 some.1 in
      inr (test_err (holds some.0) cause.Limit d some.0 some.2, (some.0, s.0, s.1))
]

pub numbers-told : (low high : ℕ) → TellsFromLimit (bounded_of low high) cause.Number IsNumberText
unfolding bounded_of
numbers-told low high = told any_number cause.Number (λ n. nat_le low n && nat_le n high) is-number only-number

pub corrections-told : TellsFromLimit signed_correction_of cause.Number IsSignedText
unfolding signed_correction_of
corrections-told = told any_signed cause.Number (λ z. nat_le (unsigned_abs z) 1_000_000_000_000_000) is-signed
    only-signed

-- the factor of a later period is one, and within one limit more
pub later-told : TellsFromLimit later_factor.read cause.Number IsSignedText
later-told f c e = elim (bind_err (signed_correction_of f) (λ z. test (not (int_eq z (pos 0))) cause.Limit z) c e) [
  | inl none ↦ corrections-told f c none
  | inr some ↦ let s = is-factor.spelled f some.0 some.1 in
      inr (
        test_err _ cause.Limit c some.0 some.2,
        (some.0, s.0, omega (arith, digits-range 1_000_000_000_000_000 some.0 s.1.low s.1.high)),
      )
]

pub figures-told : TellsFromLimit signed_figure_of cause.Number IsSignedText
unfolding signed_figure_of
figures-told = told any_signed cause.Number (λ z. nat_le (unsigned_abs z) 4_000_000_000_000_000) is-signed only-signed

-- ---- dates

limit-days : (z : ℤ) (c : Cause) → in_days z ≡ Err c → c ≡ cause.Limit
unfolding in_days
limit-days (pos n) c e = test_err _ cause.Limit c n e
limit-days (negsuc n) c e = cc

text-limit : (f : List ℕ) (c : Cause) → IsDateText f → date_of f ≡ Err c → c ≡ cause.Limit
unfolding day_named
text-limit f c t e =
    let parts = civil-parts t.year t.month t.day t.civil in
    let read = ap date_of t.spelled ∙ text-read t.year t.month t.day t.small parts.1 parts.3 ∙ rw t.civil refl in
    limit-days (days_from_civil (pos t.year) t.month t.day) c (sym read ∙ e)

no-date : (f : List ℕ) (c : Cause) → c ≡ cause.Date → date_of f ≡ Err c → ((c ≡ cause.Date) × ¬ (IsDateText f))
    ⊎ ((c ≡ cause.Limit) × IsDateText f)
no-date f c is e = inl (is, λ t. let limit = text-limit f c t e in cc)

pub dates-told : TellsFromLimit date_of cause.Date IsDateText
unfolding date_of day_named
dates-told f c e = elim (if_err (is_date_text f) cause.Date c (day_named (year_in f) (month_in f) (day_in f)) e) [
  | inl wrong ↦ no-date f c wrong e
  | inr text ↦ elim (if_err (is_civil (year_in f) (month_in f) (day_in f)) cause.Date c
      (in_days (days_from_civil (pos (year_in f)) (month_in f) (day_in f))) text.1) [
        | inl wrong ↦ no-date f c wrong e
        | inr named ↦ let t = text-of f text.0 in
            inr (
              limit-days _ c named.1,
              record {
                year = year_in f;
                month = month_in f;
                day = day_in f;
                small = t.1;
                civil = named.0;
                spelled = t.0;
              },
            )
      ]
]
