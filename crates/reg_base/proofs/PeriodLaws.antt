-- The period of a year: periods rise, so at most one has it.
use Rattle.std.proofs.Common.{◌≡◌, ℕ, zero, suc, ◌+◌, ◌-◌, ◌<◌, ◌≤◌, Bool, true, false, cond, eqb, List, [], ◌∷◌}
use Rattle.std.proofs.Common.{length, get_or, refl, ap, sym, ◌∙◌, arith, add-one, Option, Some, None}
use Rattle.std.specs.Prelude.{find, slice_get, MatchOption}
use Rattle.std.specs.List.{AllByRecursion, position_from}
use Rattle.std.proofs.lemmas.Bool.{eq-eqb}
use Rattle.std.proofs.lemmas.Bool.Decides.{nat_tests}
use Rattle.reg_base.specs.Periods.{PeriodsRise, first_years, is_within}
use Rattle.reg_base.specs.Rules.{PeriodOfIsTheOnlyOne, NoPeriodHas, IsOnlyPeriod, period_of}

-- the periods rise, and the first begins at this year or later
abbrev pub PeriodsFrom : ℕ → List (ℕ × ℕ) → Type 0
PeriodsFrom low [] = Unit {0}
PeriodsFrom low (p ∷ ps) = (low ≤ p.0) × ((p.0 ≤ p.1) × PeriodsFrom (suc p.1) ps)

next_after : (p : ℕ × ℕ) (ps : List (ℕ × ℕ)) → PeriodsRise (p ∷ ps) → 0 < length ps
    → suc p.1 ≤ get_or (first_years ps) 0 0
next_after p [] rise some = absurd (omega arith)
next_after p (q ∷ qs) rise some = let h : p.1 < q.0 = rise 0 (omega arith) in omega (arith, h)

periods_from : (low : ℕ) (ps : List (ℕ × ℕ)) → AllByRecursion (λ p. p.0 ≤ p.1) ps → PeriodsRise ps
    → (0 < length ps → low ≤ get_or (first_years ps) 0 0)
    → PeriodsFrom low ps
periods_from low [] each rise first = tt
periods_from low (p ∷ ps) each rise first = (
  first (omega arith),
  (
    each.0,
    periods_from (suc p.1) ps each.1 (λ k lt. rw add-one (let h = rise (suc k) (omega arith) in rw add-one at h))
        (next_after p ps rise),
  ),
)

-- a year before a period is not in it
not_within : (period : ℕ × ℕ) (year : ℕ) → year < period.0 → is_within period year ≡ false
not_within period year before = grind (arith, nat_tests)

at_most_last : (period : ℕ × ℕ) (year : ℕ) → is_within period year ≡ true → year ≤ period.1
at_most_last period year has = grind (arith, nat_tests)

-- a year before all of them is in none
none_later : (year low : ℕ) (ps : List (ℕ × ℕ)) → PeriodsFrom low ps → year < low → (k : ℕ) (period : ℕ × ℕ)
    → slice_get ps k ≡ Some period → is_within period year ≡ false
none_later year low [] from before k period here = absurd (cc)
none_later year low (p ∷ ps) from before zero period here =
    let same : p ≡ period = cc in
    rw (sym same) (not_within p year (omega (arith, from.0, before)))
none_later year low (p ∷ ps) from before (suc k) period here =
    none_later year (suc p.1) ps from.1.1 (omega (arith, from.0, from.1.0, before)) k period here

-- what a search from a number on says of these periods
pub record OnlyFrom (ps : List (ℕ × ℕ)) (year first number : ℕ) : Type 0 where
  pub least : first ≤ number
  pub within : number < first + length ps
  pub alone : (k : ℕ) (period : ℕ × ℕ) → slice_get ps k ≡ Some period → is_within period year ≡ eqb (k + first) number
  pub same_period : find (λ period. is_within period year) ps ≡ slice_get ps (number - first)

pub record NoneHas (ps : List (ℕ × ℕ)) (year : ℕ) : Type 0 where
  pub none_has : (k : ℕ) (period : ℕ × ℕ) → slice_get ps k ≡ Some period → is_within period year ≡ false
  pub no_period : find (λ period. is_within period year) ps ≡ None

module _ (year : ℕ) where
  is_first : (first k : ℕ) → eqb (suc k + first) first ≡ false
  is_first first k = grind (arith, nat_tests)

  alone_here : (first : ℕ) (p : ℕ × ℕ) (ps : List (ℕ × ℕ)) → PeriodsFrom (suc p.1) ps → is_within p year ≡ true
      → (k : ℕ) (period : ℕ × ℕ) → slice_get (p ∷ ps) k ≡ Some period → is_within period year ≡ eqb (k + first) first
  alone_here first p ps from is zero period here =
      let same : p ≡ period = cc in
      rw (sym same) (is ∙ sym (eq-eqb (0 + first) first (omega arith)))
  alone_here first p ps from is (suc k) period here =
      none_later year (suc p.1) ps from (omega (arith, at_most_last p year is)) k period here ∙ sym (is_first first k)

  here_first : (first : ℕ) (p : ℕ × ℕ) (ps : List (ℕ × ℕ)) → PeriodsFrom (suc p.1) ps → is_within p year ≡ true
      → OnlyFrom (p ∷ ps) year first first
  here_first first p ps from is = record {
    least = omega arith;
    within = omega arith;
    alone = alone_here first p ps from is;
    same_period = let none : first - first ≡ 0 = omega arith in rw is (rw none refl);
  }

  none_here : (p : ℕ × ℕ) (ps : List (ℕ × ℕ)) → is_within p year ≡ false → NoneHas ps year
      → (k : ℕ) (period : ℕ × ℕ) → slice_get (p ∷ ps) k ≡ Some period → is_within period year ≡ false
  none_here p ps not none zero period here = let same : p ≡ period = cc in rw (sym same) not
  none_here p ps not none (suc k) period here = none.none_has k period here

  not_first : (first number : ℕ) → first + 1 ≤ number → eqb (0 + first) number ≡ false
  not_first first number above = grind (arith, nat_tests)

  alone_later : (first number : ℕ) (p : ℕ × ℕ) (ps : List (ℕ × ℕ)) → is_within p year ≡ false
      → OnlyFrom ps year (first + 1) number
      → (k : ℕ) (period : ℕ × ℕ) → slice_get (p ∷ ps) k ≡ Some period → is_within period year ≡ eqb (k + first) number
  alone_later first number p ps not some zero period here =
      let same : p ≡ period = cc in
      rw (sym same) (not ∙ sym (not_first first number some.least))
  alone_later first number p ps not some (suc k) period here =
      let e : k + (first + 1) ≡ suc k + first = omega arith in
      some.alone k period here ∙ ap (λ n. eqb n number) e

  later : (first : ℕ) (p : ℕ × ℕ) (ps : List (ℕ × ℕ)) → is_within p year ≡ false → (o : Option ℕ)
      → MatchOption o (NoneHas ps year) (OnlyFrom ps year (first + 1))
      → MatchOption o (NoneHas (p ∷ ps) year) (OnlyFrom (p ∷ ps) year first)
  later first p ps not None none = record { none_has = none_here p ps not none; no_period = rw not none.no_period }
  later first p ps not (Some number) some = record {
    least = omega (arith, some.least);
    within = omega (arith, some.within);
    alone = alone_later first number p ps not some;
    same_period =
        let e : number - first ≡ suc (number - (first + 1)) = omega (arith, some.least) in
        rw not (rw e some.same_period);
  }

  only : (first low : ℕ) (ps : List (ℕ × ℕ)) → PeriodsFrom low ps
      → MatchOption (position_from (λ period. is_within period year) first ps) (NoneHas ps year)
      (OnlyFrom ps year first)
  only first low [] from = record { none_has = λ k period here. absurd (cc); no_period = refl }
  only first low (p ∷ ps) from = go (is_within p year) refl (only (first + 1) (suc p.1) ps from.1.1) where
    go : (b : Bool) → is_within p year ≡ b
        → MatchOption (position_from (λ period. is_within period year) (first + 1) ps) (NoneHas ps year)
        (OnlyFrom ps year (first + 1))
        → MatchOption (cond b (Some first) (position_from (λ period. is_within period year) (first + 1) ps))
        (NoneHas (p ∷ ps) year) (OnlyFrom (p ∷ ps) year first)
    go true is rest = here_first first p ps from.1.1 is
    go false is rest = later first p ps is (position_from (λ period. is_within period year) (first + 1) ps) rest

pub period_of_is_the_only_one : PeriodOfIsTheOnlyOne
period_of_is_the_only_one r year fit =
    go (period_of r year) (only year 1 0 r.periods
    (periods_from 0 r.periods fit.each fit.rise (λ some. omega arith))) where
      go : (o : Option ℕ) → MatchOption o (NoneHas r.periods year) (OnlyFrom r.periods year 1)
          → MatchOption o (NoPeriodHas r year) (IsOnlyPeriod r year)
      go None none = record { none_has = none.none_has; no_period = none.no_period }
      go (Some number) some = record {
        counted = record { low = some.least; high = omega (arith, some.within) };
        alone = some.alone;
        same_period = some.same_period;
      }
