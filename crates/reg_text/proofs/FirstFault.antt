-- The row that a fault names is the first with which no day text begins, and its cause is the first of the table's.
use Rattle.std.proofs.Common.{◌≡◌, ◌⊎◌, inl, inr, ℕ, suc, ◌+◌, ◌-◌, ◌<◌, ◌≤◌, Bool, false, not, true, List, [], ◌∷◌}
use Rattle.std.proofs.Common.{◌++◌, length, take, get_or, Option, Some, None, Result, Ok, Err, refl, sym, ap, subst}
use Rattle.std.proofs.Common.{◌∙◌, arith, append_assoc}
use Rattle.std.proofs.lemmas.List.{append-nil}
use Rattle.reg_text.proofs.Names.{MOST_LAG, FIRST_DAY, FIRST_YEAR, Cause, Tag, Version, One, Two, SectionStandsAt}
use Rattle.reg_text.proofs.Names.{stage, scope_of, TextRow, Said, row, DraftValue, nothing_read, DayValue, is_text_over}
use Rattle.reg_text.proofs.Names.{day_said, IsDraft, IsReading, Begins, IsFirstFaulty, fault_of, with, in_order}
use Rattle.reg_text.proofs.Names.{has_space, next_draft, drafted, at_row, at_end, after_rows, day_of_rows, IsCauseOf}
use Rattle.reg_text.specs.declared.cause.Cause.TheVariants as cause
use Rattle.reg_text.specs.declared.reading.tag.Tag.TheVariants as tag
use Rattle.reg_text.specs.Grammar.{row_text}
use Rattle.reg_text.proofs.TagLaws.{MayFollow}
use Rattle.reg_text.proofs.GrammarLaws.{ranged}
use Rattle.reg_text.proofs.DraftSteps.{rows_so_far, at-tag, grows, grows-with, nothing-fits}
use Rattle.reg_text.proofs.Readings.{closes, reading-to}
use Rattle.std.specs.Prelude.{is_ok}
use Rattle.reg_text.proofs.CauseLaws.{next, refused, once, only-named, only-bind, only-test}
use Rattle.reg_text.proofs.GrammarLaws.{each-row}
use Rattle.reg_text.proofs.Names.{field, named, all_tags, tag_word, may_follow, tag_after, when, first_cause, placed}
use Rattle.reg_text.proofs.Names.{with_row, said_tests, tagged_tests, tests_of}

-- ---- the cause against a row is the first of the table's that applies

placed-fault : {A : Type 0} (ordered space : Bool) (x : A)
    → fault_of (placed ordered space x)
    ≡ first_cause (when (not ordered) cause.Order ∷ when (not space) cause.Limit ∷ [])
placed-fault true true x = refl
placed-fault true false x = refl
placed-fault false space x = refl

row-fault : (t : Tag) (d : DraftValue) (r : TextRow) → fault_of (with_row t d r) ≡ first_cause (tagged_tests (Ok t) d r)
unfolding with_row
row-fault t d r =
    let c = row (scope_of d) t in
    next (c.read r) _ (c.tests r) (said_tests t d (c.read r)) ((each-row (scope_of d) t).fault r) (λ x e.
    placed-fault (in_order t d x) (has_space t d x) (with t d x)
    ∙ ap (λ (y : Result (Said t) Cause). first_cause (said_tests t d y)) (sym e))

tag-once : (version : Version) (last : Option Tag) (f : List ℕ) → fault_of (tag_after version last f)
    ≡ first_cause (when (not (is_ok (tag_after version last f))) cause.Tag ∷ [])
tag-once version last f =
    once cause.Tag (tag_after version last f)
    (only-bind cause.Tag (named cause.Tag tag_word all_tags f) _ (only-named cause.Tag tag_word all_tags f)
    (λ t. only-test (may_follow version last t) cause.Tag t))

-- the first cause of the table that applies to a row
pub first-fault : (d : DraftValue) (r : TextRow) → fault_of (next_draft d r) ≡ first_cause (tests_of d r)
first-fault d r =
    let read = tag_after (scope_of d).version d.last (field r 0) in
    refused (is_text_over d.last) cause.End _ _ (λ h.
    next read (λ t. with_row t d r) (when (not (is_ok read)) cause.Tag ∷ []) (tagged_tests read d r)
    (tag-once (scope_of d).version d.last (field r 0)) (λ t e.
    row-fault t d r ∙ ap (λ (x : Result Tag Cause). first_cause (tagged_tests x d r)) (sym e)))

-- ---- the rows of a draft begin a day text

-- one row more
with-one : (t : Tag) (d : DraftValue) (x : Said t) → IsDraft d → MayFollow (scope_of d).version d.last t
    → (row (scope_of d) t).Fits x → in_order t d x ≡ true → has_space t d x ≡ true
    → (IsDraft (with t d x) → Begins (rows_so_far (with t d x))) → Begins (rows_so_far d)
with-one t d x h may fits order space more =
    let g = grows-with t d x h may fits order space in
    let begins = more g.draft in
    let same = ap (λ (rows : List TextRow). rows ++ begins.0) g.rows
    ∙ append_assoc (rows_so_far d) (row_text t x ∷ []) begins.0 in
    (row_text t x ∷ begins.0, begins.1, subst (λ (text : List TextRow). IsReading text begins.1) same begins.2)

over-begins : (d : DraftValue) → IsDraft d → is_text_over d.last ≡ true → Begins (rows_so_far d)
over-begins d h over = let c = closes d h.fits over in
    ([], c.day, subst (λ (text : List TextRow). IsReading text c.day) (sym (append-nil (rows_so_far d))) c.reading)

from-lags : (d : DraftValue) → IsDraft d → MayFollow (scope_of d).version d.last tag.End → Begins (rows_so_far d)
from-lags d h may = with-one tag.End d tt h may tt refl refl (λ k. over-begins (with tag.End d tt) k refl)

before-lags : (d : DraftValue) → IsDraft d → MayFollow (scope_of d).version d.last tag.Lags → Begins (rows_so_far d)
before-lags d h may =
    with-one tag.Lags d (record { trusted = 0; other = 0; list = 0; reversal = 0 }) h may (
      ranged 0 MOST_LAG 0 refl,
      (ranged 0 MOST_LAG 0 refl, (ranged 0 MOST_LAG 0 refl, ranged 0 MOST_LAG 0 refl)),
    ) refl refl
    (λ k. from-lags _ k refl)

from-current : (version : Version) (d : DraftValue) → (scope_of d).version ≡ version → d.last ≡ Some tag.Current
    → IsDraft d → Begins (rows_so_far d)
from-current One d is at h = let known = rw (is, at) at h.fits.known in absurd cc
from-current Two d is at h = before-lags d h (rw (is, at) refl)

from-period : (version : Version) (d : DraftValue) → (scope_of d).version ≡ version → d.last ≡ Some tag.Period
    → IsDraft d → Begins (rows_so_far d)
from-period One d is at h = before-lags d h (rw (is, at) refl)
from-period Two d is at h =
    let here : stage d.last ≡ 30 = ap stage at in
    let some = (at-tag (SectionStandsAt (scope_of d).version (stage d.last)) d tag.Period h.fits.stand).come
    (omega (arith, here)) refl in
    with-one tag.Current d 1 h (rw (is, at) refl) (record { low = omega arith; high = some }, omega arith) refl refl
    (λ k. from-current Two (with tag.Current d 1) is refl k)

from-day : (d : DraftValue) → IsDraft d → d.last ≡ Some tag.Day → Begins (rows_so_far d)
from-day d h at =
    let here : stage d.last ≡ 20 = ap stage at in
    let none = (at-tag (SectionStandsAt (scope_of d).version (stage d.last)) d tag.Period h.fits.stand).begun
    (omega (arith, here)) in
    with-one tag.Period d (FIRST_YEAR, FIRST_YEAR) h (may-come (scope_of d).version d.last at)
    ((ranged _ _ FIRST_YEAR refl, ranged _ _ FIRST_YEAR refl), refl) (rw none refl) (rw none refl)
    (λ k. from-period (scope_of d).version _ refl refl k) where
      may-come : (version : Version) (last : Option Tag) → last ≡ Some tag.Day → MayFollow version last tag.Period
      may-come One last e = rw e refl
      may-come Two last e = rw e refl

from-format : (d : DraftValue) → IsDraft d → MayFollow (scope_of d).version d.last tag.Day → Begins (rows_so_far d)
from-format d h may = with-one tag.Day d (FIRST_DAY, 1) h may (ranged _ _ FIRST_DAY refl, ranged _ _ 1 refl) refl refl
    (λ k. from-day _ k refl)

from-nothing : (d : DraftValue) → IsDraft d → MayFollow (scope_of d).version d.last tag.Format → Begins (rows_so_far d)
from-nothing d h may = with-one tag.Format d One h may tt refl refl (λ k. from-format _ k refl)

begins-by : (last : Option Tag) (d : DraftValue) → d.last ≡ last → IsDraft d → Begins (rows_so_far d)
begins-by None d e h = from-nothing d h (rw e refl)
begins-by (Some tag.Format) d e h = from-format d h (rw e refl)
begins-by (Some tag.Day) d e h = from-day d h e
begins-by (Some tag.Period) d e h = from-period (scope_of d).version d refl e h
begins-by (Some tag.Current) d e h = from-current (scope_of d).version d refl e h
begins-by (Some tag.End) d e h = over-begins d h (rw e refl)
begins-by last d e h = from-lags d h (rw e refl)

pub begins-draft : (d : DraftValue) → IsDraft d → Begins (rows_so_far d)
begins-draft d h = begins-by d.last d refl h

-- ---- where reading stops

-- after k rows the reading stands at a draft, and then the row or the end of the rows is wrong
record Stops (number : ℕ) (d : DraftValue) (rows : List TextRow) (row : ℕ) (c : Cause) : Type 0 where
  count : ℕ
  at : row ≡ number + count
  within : count ≤ length rows
  last_draft : DraftValue
  fits : IsDraft last_draft
  made : drafted d (take count rows) ≡ Ok last_draft
  stands : rows_so_far last_draft ≡ rows_so_far d ++ take count rows
  refused : count < length rows → next_draft last_draft (get_or rows count []) ≡ Err c
  -- whatever follows the faulty row, the fault stays
  stays : count < length rows → (more : List TextRow) → after_rows number d (take (count + 1) rows ++ more)
      ≡ Err (row, c)
  too_short : count ≡ length rows → c ≡ cause.End

faulty_row : (number : ℕ) (read : Result DraftValue Cause) (more : DraftValue → Result DayValue (ℕ × Cause)) (row : ℕ)
    (c : Cause) → at_row number read more ≡ Err (row, c)
    → ((read ≡ Err c) × (row ≡ number)) ⊎ ((d : DraftValue) × (read ≡ Ok d) × (more d ≡ Err (row, c)))
faulty_row number (Ok d) more row c e = inr (d, refl, e)
faulty_row number (Err b) more row c e = let pair : ◌≡◌ {A = ℕ × Cause} (number, b) (row, c) = cc in
    inl (ap (λ (p : ℕ × Cause). Err p.1) pair, sym (ap (λ (p : ℕ × Cause). p.0) pair))

fault_at_end : (number : ℕ) (o : Option DayValue) (row : ℕ) (c : Cause) → at_end number o ≡ Err (row, c)
    → (row ≡ number) × (c ≡ cause.End)
fault_at_end number (Some v) row c e = absurd cc
fault_at_end number None row c e = let pair : ◌≡◌ {A = ℕ × Cause} (row, c) (number, cause.End) = cc in
    (ap (λ (p : ℕ × Cause). p.0) pair, ap (λ (p : ℕ × Cause). p.1) pair)

stops : (rows : List TextRow) (number : ℕ) (d : DraftValue) (row : ℕ) (c : Cause) → IsDraft d
    → after_rows number d rows ≡ Err (row, c) → Stops number d rows row c
stops [] number d row c h e =
    let a = fault_at_end number (day_said d) row c e in
    record {
      count = 0;
      at = omega (arith, a.0);
      within = omega arith;
      last_draft = d;
      fits = h;
      made = refl;
      stands = sym (append-nil (rows_so_far d));
      refused = λ lt. absurd (omega arith);
      stays =
          λ lt more. absurd (omega arith);
      too_short = λ same. a.1;
    }
stops (r ∷ rows) number d row c h e =
    elim (faulty_row number (next_draft d r) (λ x. after_rows (number + 1) x rows) row c e) [
      | inl here ↦ record {
        count = 0;
        at = omega (arith, here.1);
        within = omega arith;
        last_draft = d;
        fits = h;
        made = refl;
        stands = sym (append-nil (rows_so_far d));
        refused = λ lt. here.0;
        stays =
            λ lt more. rw here.0 (ap (λ (n : ℕ). Err (n, c)) (sym here.1));
        too_short = λ same. absurd (omega arith);
      }
      | inr later ↦
          let g = grows d later.0 r h later.1 in
          let s = stops rows (number + 1) later.0 row c g.draft later.2 in
          record {
            count = suc s.count;
            at = omega (arith, s.at);
            within = omega (arith, s.within);
            last_draft = s.last_draft;
            fits = s.fits;
            made = rw later.1 s.made;
            refused = λ lt. s.refused (omega arith);
            stands = s.stands ∙ ap (λ (x : List TextRow). x ++ take s.count rows) g.rows
                ∙ append_assoc (rows_so_far d) (r ∷ []) (take s.count rows);
            stays = λ lt more. let plus : suc s.count + 1 ≡ suc (s.count + 1) = omega arith in
                rw (plus, later.1) (s.stays (omega arith) more);
            too_short = λ same. s.too_short (omega arith);
          }
    ]

-- ---- the law

no_value : (rows : List TextRow) (v : DayValue) (row : ℕ) (c : Cause) → day_of_rows rows ≡ Err (row, c)
    → IsReading rows v → ⊥
no_value rows v row c e reading = let value = reading-to rows v reading in cc

pub first-faulty : (rows : List TextRow) (row : ℕ) (c : Cause) → day_of_rows rows ≡ Err (row, c)
    → IsFirstFaulty rows row
    × (row ≡ length rows + 1 → c ≡ cause.End)
first-faulty rows row c e =
    let s = stops rows 1 nothing_read row c nothing-fits e in
    let before : row - 1 ≡ s.count = omega (arith, s.at) in
    let with_it : row ≡ s.count + 1 = omega (arith, s.at) in (
      record {
        from_one = omega (arith, s.at);
        to_the_end = omega (arith, s.at, s.within);
        begins_before = subst Begins (s.stands ∙ ap (λ (k : ℕ). take k rows) (sym before))
            (begins-draft s.last_draft s.fits);
        none_with_it = λ le begins.
            let longer = s.stays (omega (arith, s.at)) begins.0 in
            let same : take (s.count + 1) rows ++ begins.0 ≡ take row rows ++ begins.0 =
            ap (λ (k : ℕ). take k rows ++ begins.0) (sym with_it) in
            no_value (take row rows ++ begins.0) begins.1 row c (ap day_of_rows (sym same) ∙ longer) begins.2;
        none_at_the_end = λ same v reading. no_value rows v row c e reading;
      },
      λ same. s.too_short (omega (arith, s.at)),
    )

-- the cause is the first of the table's that applies to the row after the rows before it
pub cause-at : (rows : List TextRow) (row : ℕ) (c : Cause) → day_of_rows rows ≡ Err (row, c) → row ≤ length rows
    → IsCauseOf rows row c
cause-at rows row c e inside =
    let s = stops rows 1 nothing_read row c nothing-fits e in
    let before : row - 1 ≡ s.count = omega (arith, s.at) in
    record {
      draft = s.last_draft;
      made = rw before s.made;
      first = rw before (sym (first-fault s.last_draft (get_or rows s.count []))
          ∙ ap fault_of (s.refused (omega (arith, s.at))));
    }
