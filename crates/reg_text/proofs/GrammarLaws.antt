-- The laws of the codecs of fields, and of the rows made of them.
use Rattle.std.proofs.Common.{◌≡◌, ◌≢◌, ℕ, ℤ, pos, unsigned_abs, Bool, ◌^◌, ◌<◌, ◌≤◌, true, false, not, ◌&&◌, nat_lt}
use Rattle.std.proofs.Common.{nat_le, List, [], ◌∷◌, length, Option, Some, None, Ok, refl, ap, ◌∙◌, subst, arith}
use Rattle.std.specs.Prelude.{IfSome, is_ok, ◌↔◌}
use Rattle.std.proofs.lemmas.Bool.{and_parts, ltb-true, leb-true, le-leb}
use Rattle.reg_text.proofs.Names.{Act, ActName, Transfer, Tag, IsCodec, AreFields}
use Rattle.reg_text.proofs.Names.{within_limits, a_period, any_number, a_no, factor, later_factor, a_figure, a_date}
use Rattle.reg_text.proofs.Names.{an_approver, IsRow, row_with, act_names, act_word, act_name, form, said, an_act_name}
use Rattle.reg_text.proofs.Names.{act_fields, instruction_fields_of, Scope}
use Rattle.reg_text.proofs.Names.{row, Said, widest, Cause, Codec, IsWithin, IsUserNo, CorrectionFits, FigureFits}
use Rattle.reg_text.proofs.Names.{◌>>=◌, test, when, first_cause, fault_of, number, signed, plain_number_of, date_of}
use Rattle.reg_text.proofs.Names.{signed_of, signed_correction_of, signed_figure_of, bounded_of, approver_of}
use Rattle.reg_text.proofs.Names.{approver_text, number_tests, correction_tests, figure_tests, approver_tests, IsPlain}
use Rattle.reg_base.specs.declared.act.Act.TheVariants as act
use Rattle.reg_text.specs.declared.reading.instruction_row.ActName.TheVariants.{Distribute}
use Rattle.reg_text.specs.Words.{kinds}
use Rattle.reg_base.specs.Words.{allowance_kind_name}
use Rattle.reg_text.specs.declared.cause.Cause.TheVariants as cause
use Rattle.reg_text.specs.declared.reading.tag.Tag.TheVariants as tag
use Rattle.reg_text.proofs.Binds.{bind_ok, test_ok, ok_is}
use Rattle.reg_text.proofs.CauseLaws.{tested, done, limited, once, only-number, only-signed, by_result}
use Rattle.reg_text.proofs.NumberLaws.{number-spelled, number-again, digit-first, signed-spelled, signed-again}
use Rattle.reg_text.proofs.NumberLaws.{signed-range, digits-range}
use Rattle.reg_text.proofs.DateLaws.{date-spelled, date-again}
use Rattle.reg_text.proofs.WordLaws.{is-version, is-word, own-kind, own-account_kind, own-status, own-right}
use Rattle.reg_text.proofs.WordLaws.{own-retirement, own-yes_no, own-act_word}
use Rattle.reg_text.proofs.PlainFacts.{plain-decimal, plain-signed, plain-date}
use Rattle.reg_text.proofs.ShareLaws.{are_shares}
use Rattle.reg_text.proofs.MaybeLaws.{are_maybe}
use Rattle.reg_text.proofs.FateLaws.{row-again, row-back}
use Rattle.reg_text.specs.Grammar.{retired_fields, retired_said, retired_made, retired_parts}
use Rattle.std.specs.Ordering.{int_eq}
use Rattle.std.proofs.lemmas.Bool.Decides.{Decides-int_eq}
use Rattle.reg_text.proofs.CodecLaws.{then-tested, are_none, are_last, are_then, are_made, are_provided, are_forms}
use Rattle.reg_text.proofs.CodecLaws.{is_row, is_named_row, Form}

-- ---- the fields

pub is-number : IsCodec any_number
is-number = record {
  spelled = number-spelled;
  again = number-again;
  fault = λ f. once cause.Number (plain_number_of f) (only-number f);
  plain = plain-decimal;
}

abbrev pub any_signed : Codec ℤ
any_signed = record {
  spell = signed;
  read = signed_of;
  tests = λ f. when (not (is_ok (signed_of f))) cause.Number ∷ [];
  Fits = λ z. unsigned_abs z < 2 ^ 64;
}

pub is-signed : IsCodec any_signed
is-signed = record {
  spelled = signed-spelled;
  again = signed-again;
  fault = λ f. once cause.Number (signed_of f) (only-signed f);
  plain = plain-signed;
}

-- the same field, of a value within a limit
is-limited : {A : Type 0} (c : Codec A) (holds : A → Bool) (tests : List ℕ → List (Option Cause)) (Fits : A → Type 0)
    → IsCodec c → ((x : A) → c.Fits x → holds x ≡ true → Fits x) → ((x : A) → Fits x → (holds x ≡ true) × c.Fits x)
    → ((f : List ℕ) → fault_of (c.read f >>= λ x. test (holds x) cause.Limit x) ≡ first_cause (tests f))
    → IsCodec (record {
      spell = c.spell;
      read = λ f. c.read f >>= λ x. test (holds x) cause.Limit x;
      tests = tests;
      Fits = Fits;
    })
is-limited c holds tests Fits h fit passes fault = record {
  spelled = λ f x e.
      let y = bind_ok (c.read f) _ x e in
      let t = test_ok (holds y.0) cause.Limit y.0 x y.2 in
      let s = h.spelled f y.0 y.1 in
      rw (← t.1) (s.0, fit y.0 s.1 t.0);
  again = λ x fits. let k = passes x fits in rw (h.again x k.1, k.0) refl;
  fault = fault;
  plain = h.plain;
}

pub ranged : (low high n : ℕ) → (nat_le low n && nat_le n high) ≡ true → IsWithin low high n
ranged low high n e = let both = and_parts (nat_le low n) (nat_le n high) e in
    record { low = leb-true _ _ both.0; high = leb-true _ _ both.1 }

pub is-within : (low high : ℕ) → nat_lt high (2 ^ 64) ≡ true → IsCodec (within_limits low high)
unfolding bounded_of
is-within low high small = is-limited any_number (λ n. nat_le low n && nat_le n high) (number_tests low high)
    (IsWithin low high) is-number (λ n fits. ranged low high n)
    (λ n h. (rw (le-leb low n h.low, le-leb n high h.high) refl, omega (arith, h.high, ltb-true high (2 ^ 64) small)))
    (λ f. limited cause.Number _ 0 (plain_number_of f) (only-number f))

pub is-period : (low most : ℕ) → IsCodec (a_period low most)
unfolding bounded_of
is-period low most = is-limited any_number (λ n. nat_le low n && nat_le n most) (number_tests low most)
    (a_period low most).Fits is-number (λ n fits e. (ranged low most n e, fits))
    (λ n h. (rw (le-leb low n h.0.low, le-leb n most h.0.high) refl, h.1))
    (λ f. limited cause.Number _ 0 (plain_number_of f) (only-number f))

-- the same of a signed number with at most so many digits
signed-limited : (most : ℕ) (Fits : ℤ → Type 0) (tests : List ℕ → List (Option Cause)) → most < 2 ^ 64
    → ((z : ℤ) → unsigned_abs z ≤ most → Fits z) → ((z : ℤ) → Fits z → unsigned_abs z ≤ most)
    → ((f : List ℕ) → fault_of (signed_of f >>= λ z. test (nat_le (unsigned_abs z) most) cause.Limit z)
    ≡ first_cause (tests f))
    → IsCodec (record {
      spell = signed;
      read = λ f. signed_of f >>= λ z. test (nat_le (unsigned_abs z) most) cause.Limit z;
      tests = tests;
      Fits =
          Fits;
    })
signed-limited most Fits tests small fit size fault =
    is-limited any_signed (λ z. nat_le (unsigned_abs z) most) tests Fits is-signed (λ z fits e. fit z (leb-true _ _ e))
    (λ z h. (le-leb _ _ (size z h), omega (arith, size z h))) fault

pub is-factor : IsCodec factor
unfolding signed_correction_of
is-factor = signed-limited 1_000_000_000_000_000 CorrectionFits correction_tests (omega arith)
    (λ z h. let r = signed-range 1_000_000_000_000_000 z h in
    record { low = r.0; high = r.1 }) (λ z h. digits-range 1_000_000_000_000_000 z h.low h.high)
    (λ f. limited cause.Number _ (pos 0) (signed_of f) (only-signed f))

pub is-later_factor : IsCodec later_factor
is-later_factor = is-limited factor (λ z. not (int_eq z (pos 0))) later_factor.tests later_factor.Fits is-factor
    (λ z fits e. (fits, e)) (λ z h. (h.1, h.0))
    (λ f. then-tested (signed_correction_of f) _ (correction_tests f) _ (is-factor.fault f)
    (λ z. tested (not (int_eq z (pos 0))) cause.Limit z))

pub is-figure : IsCodec a_figure
unfolding signed_figure_of
is-figure = signed-limited 4_000_000_000_000_000 FigureFits figure_tests (omega arith)
    (λ z h. let r = signed-range 4_000_000_000_000_000 z h in
    record { low = r.0; high = r.1 }) (λ z h. digits-range 4_000_000_000_000_000 z h.low h.high)
    (λ f. limited cause.Number _ (pos 0) (signed_of f) (only-signed f))

pub is-date : IsCodec a_date
is-date = record { spelled = date-spelled; again = date-again; fault = λ f. by_result (date_of f); plain = plain-date }

pub is-no : IsCodec a_no
is-no = is-within _ _ refl

-- the approver: nobody, or a number
approver-spelled : (f : List ℕ) (o : Option ℕ) → approver_of f ≡ Ok o → (f ≡ approver_text o) × IfSome o IsUserNo
unfolding approver_of
approver-spelled [] o e =
    subst (λ (p : Option ℕ). ([] ≡ approver_text p) × IfSome p IsUserNo) (ok_is None o e) (refl, tt)
approver-spelled (b ∷ f) o e =
    let n = bind_ok (a_no.read (b ∷ f)) (λ n. Ok (Some n)) o e in
    subst (λ (p : Option ℕ). (b ∷ f ≡ approver_text p) × IfSome p IsUserNo) (ok_is (Some n.0) o n.2)
    (is-no.spelled (b ∷ f) n.0 n.1)

some-again : (f : List ℕ) (n : ℕ) → 0 < length f → a_no.read f ≡ Ok n → approver_of f ≡ Ok (Some n)
unfolding approver_of
some-again [] n h e = absurd (omega arith)
some-again (b ∷ f) n h e = rw e refl

approver-again : (o : Option ℕ) → IfSome o IsUserNo → approver_of (approver_text o) ≡ Ok o
unfolding approver_of
approver-again None h = refl
approver-again (Some n) h = some-again (number n) n (digit-first n (omega (arith, h.high))).0 (is-no.again n h)

approver-fault : (f : List ℕ) → fault_of (approver_of f) ≡ first_cause (approver_tests f)
unfolding approver_of
approver-fault [] = refl
approver-fault (b ∷ f) = done (a_no.read (b ∷ f)) (λ n. Some n) (a_no.tests (b ∷ f)) (is-no.fault (b ∷ f))

plain-approver : (user : Option ℕ) → IsPlain (approver_text user)
plain-approver None = refl
plain-approver (Some user) = plain-decimal user

is-approver : IsCodec an_approver
is-approver = record {
  spelled = approver-spelled;
  again = approver-again;
  fault = approver-fault;
  plain = plain-approver;
}

-- a field is read as a value exactly if it is its spelling and the value fits
pub one-spelling : {A : Type 0} {c : Codec A} → IsCodec c → (f : List ℕ) (x : A) → (c.read f ≡ Ok x)
    ↔ ((f ≡ c.spell x) × c.Fits x)
one-spelling {c = c} h f x = (h.spelled f x, λ is. ap c.read is.0 ∙ h.again x is.1)

-- a test for 0
not-zero : (z : ℤ) → not (int_eq z (pos 0)) ≡ true → z ≢ pos 0
not-zero z other zero = let same = (Decides-int_eq z (pos 0)).1 zero in let no : false ≡ true = rw same at other in
    absurd cc

other-than-zero : (z : ℤ) → z ≢ pos 0 → not (int_eq z (pos 0)) ≡ true
other-than-zero z other = ap not (not-yes (int_eq z (pos 0)) (λ same. other ((Decides-int_eq z (pos 0)).0 same)))
  where
    not-yes : (b : Bool) → (b ≡ true → ⊥) → b ≡ false
    not-yes true none = absurd (none refl)
    not-yes false none = refl

-- the factor of a later period has one spelling, and is not 0
pub later-spelling : (f : List ℕ) (z : ℤ) → (later_factor.read f ≡ Ok z)
    ↔ ((f ≡ signed z) × CorrectionFits z × (z ≢ pos 0))
later-spelling f z = let one = one-spelling is-later_factor f z in
    (λ e. let s = one.0 e in (s.0, s.1.0, not-zero z s.1.1), λ is. one.1 (is.0, (is.1, other-than-zero z is.2)))

-- ---- the acts: a line each

ruleset codecs = (
  is-version,
  is-number,
  is-within,
  is-period,
  is-factor,
  is-later_factor,
  is-figure,
  is-date,
  is-approver,
  is-word,
  own-kind,
  own-account_kind,
  own-status,
  own-right,
  own-retirement,
  own-yes_no,
  are_none,
  are_last,
  are_maybe,
  are_then,
  are_made,
  are_provided,
)

each-act : (n : ActName) → AreFields (form n).fields
each-act Transfer = search codecs depth 14
each-act Distribute = are_made _ _ _
    (are_then _ _ is-no (are_then _ _ (is-word allowance_kind_name kinds own-kind) (are_shares is-no is-number)))
    (λ p fits. refl)
    (λ d. refl)
each-act n = search codecs depth 14

parts-of-made : (n : ActName) (p : (form n).Parts)
    → ◌≡◌ {A = Form (λ m. (form m).Parts)} (said ((form n).make p)) (n, p)
parts-of-made Transfer p = refl
parts-of-made n p = refl

made-of-parts : (a : Act) → (form (act_name a)).make (said a).1 ≡ a
made-of-parts (act.Transfer from to kind amount) = refl
made-of-parts a = refl

are-acts : AreFields act_fields
are-acts = are_forms act_name (λ n. (form n).Parts) an_act_name (λ n. (form n).fields) (λ n. (form n).make)
    (λ a. (said a).1) (is-word act_word act_names own-act_word) each-act parts-of-made made-of-parts

-- ---- the rows

are-instructions : AreFields instruction_fields_of
are-instructions = search (codecs, are-acts) depth 14

-- a row is spelled the same in every scope
pub same-spelling : (scope : Scope) (t : Tag) (x : Said t) → (row scope t).spell x ≡ (row widest t).spell x
same-spelling scope tag.Format x = refl
same-spelling scope t x = refl

are-retired : (scope : Scope) → AreFields (retired_fields scope)
are-retired scope =
    are_made retired_made retired_parts (retired_said scope) (search codecs depth 14) (row-again scope) row-back

pub each-row : (scope : Scope) (t : Tag) → IsRow (row scope t)
each-row scope tag.Do = is_named_row 4 an_act_name (row_with instruction_fields_of) (λ i. act_name i.act)
    (is-word act_word act_names own-act_word) (is_row _ are-instructions) (λ tag i fits. (omega arith, refl, tt))
each-row scope tag.Retired = is_row _ (are-retired scope)
each-row scope t = search (codecs, is_row) depth 24
