-- What has not come before a row that comes once, and what comes of a row that was read.
use Rattle.std.proofs.Common.{◌≡◌, ℕ, Bool, true, false, List, [], Result, Ok, Err, refl}
use Rattle.reg_text.proofs.Names.{Tag, Version, One, Two, TextRow, DraftValue, IsDraft, Said, row_read, scope_of}
use Rattle.reg_text.proofs.Names.{is_once, tag_after, in_order, has_space, placed}
use Rattle.reg_text.proofs.Names.{with, with_row, Cause}
use Rattle.std.specs.Result.{IsErrAnd}
use Rattle.reg_text.specs.declared.cause.RowError.{RowError}
use Rattle.reg_text.specs.declared.cause.RowError.TheVariants as failure
use Rattle.reg_text.specs.Faults.{TakesRow}
use Rattle.reg_text.specs.declared.reading.tag.Tag.TheVariants as tag
use Rattle.reg_text.proofs.DraftSteps.{none-before}

once-current : (version : Version) → is_once version tag.Current ≡ true
once-current One = refl
once-current Two = refl

once-lags : (version : Version) → is_once version tag.Lags ≡ true
once-lags One = refl
once-lags Two = refl

pub no-current : (d : DraftValue) (f : List ℕ) → IsDraft d → tag_after (scope_of d).version d.last f ≡ Ok tag.Current
    → d.heading.current ≡ []
no-current d f h tagged = none-before d tag.Current f h tagged (once-current (scope_of d).version)

pub no-lags : (d : DraftValue) (f : List ℕ) → IsDraft d → tag_after (scope_of d).version d.last f ≡ Ok tag.Lags
    → d.heading.lags ≡ []
no-lags d f h tagged = none-before d tag.Lags f h tagged (once-lags (scope_of d).version)

-- ---- what comes of a row

pub row-unread : (t : Tag) (d : DraftValue) (r : TextRow) (c : Cause) → row_read (scope_of d) t r ≡ Err c
    → with_row t d r ≡ Err c
unfolding with_row
row-unread t d r c read = rw read refl

abbrev pub Verdict : Type 0
Verdict = Result (Unit {0}) Cause

placed-err : {A : Type 0} (ordered space : Bool) (x : A) (c : Cause)
    → ◌≡◌ {A = Verdict} (placed ordered space tt) (Err c) → placed ordered space x ≡ Err c
placed-err true true x c e = absurd cc
placed-err true false x c e = cc
placed-err false space x c e = cc

placed-ok : {A : Type 0} (ordered space : Bool) (x : A) → ◌≡◌ {A = Verdict} (placed ordered space tt) (Ok tt)
    → placed ordered space x ≡ Ok x
placed-ok true true x e = refl
placed-ok true false x e = absurd cc
placed-ok false space x e = absurd cc

pub row-refused : (t : Tag) (d : DraftValue) (r : TextRow) (x : Said t) (c : Cause) → row_read (scope_of d) t r ≡ Ok x
    → ◌≡◌ {A = Verdict} (placed (in_order t d x) (has_space t d x) tt) (Err c) → with_row t d r ≡ Err c
unfolding with_row
row-refused t d r x c read why = rw read (placed-err (in_order t d x) (has_space t d x) (with t d x) c why)

pub row-taken : (t : Tag) (d : DraftValue) (r : TextRow) (x : Said t) → row_read (scope_of d) t r ≡ Ok x
    → ◌≡◌ {A = Verdict} (placed (in_order t d x) (has_space t d x) tt) (Ok tt) → with_row t d r ≡ Ok (with t d x)
unfolding with_row
row-taken t d r x read passes = rw read (placed-ok (in_order t d x) (has_space t d x) (with t d x) passes)

-- a call that answers the fault of a row
pub takes-fault : {X : Type 0} (new : DraftValue) (result : Result X RowError) (read : Result DraftValue Cause)
    (c : Cause) → IsErrAnd result (λ e. e ≡ failure.Fault c) → read ≡ Err c → TakesRow new result read
takes-fault new (Ok x) read c is e = absurd is
takes-fault new (Err b) read c is e = rw is e
