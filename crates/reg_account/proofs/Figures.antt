-- The compliance figure.
use Rattle.std.proofs.Common.{◌≡◌, ℕ, ◌+◌, ◌≤◌, Bool, true, false, cond, ◌&&◌, eqb, List, [], ◌∷◌, Option, Some, None}
use Rattle.std.proofs.Common.{Ok, Err, refl, ap, ◌∙◌, arith}
use Rattle.std.specs.Prelude.{not, find, ℤ, pos, ◌-ℤ◌, ◌+ℤ◌, IfSome, Result, unwrap_or, is_none}
use Rattle.std.specs.List.{sum_by, AllByRecursion}
use Rattle.std.specs.Option.{option_map, option_map_or}
use Rattle.std.proofs.lemmas.Int.{ints}
use Rattle.std.proofs.lemmas.List.Sums.{sum_by-cons}
use Rattle.reg_base.specs.declared.limits.TheConstants.{MOST_EMISSIONS}
use Rattle.reg_base.specs.Rules.{RulesValue, period_of, is_in_period}
use Rattle.reg_account.specs.declared.rows.Fate.{Fate}
use Rattle.reg_account.specs.declared.rows.Fate.TheVariants as fate
use Rattle.reg_account.specs.declared.rows.RetirementRow.{RetirementRow}
use Rattle.reg_account.specs.declared.years.Emission.{Emission}
use Rattle.reg_account.specs.declared.years.Figure.{Figure}
use Rattle.reg_account.specs.declared.figure.FigureFault.{FigureFault}
use Rattle.reg_account.specs.declared.figure.FigureFault.TheVariants.{YearOutsidePeriod}
use Rattle.reg_account.specs.Years.{EmissionFits, FigureFits, emissions_in, figure_in}
use Rattle.reg_account.specs.Account.{AccountValue, unretired_row}
use Rattle.reg_account.specs.Figure.{years_counted, is_for_year, is_row_counted, surrendered_for_year, correction_added}
use Rattle.reg_account.specs.Figure.{emitted_in, emitted_unless, emitted_or_missing, figure_by, figure_of}
use Rattle.reg_account.specs.Laws.{YearLaws, FigureLaws, lowered_by}
use Rattle.reg_account.proofs.Keyed.{from_zero, find_put}
use Rattle.reg_account.proofs.RowFacts.{sum_marked}
use Rattle.reg_account.proofs.PeriodSums.{sum_of_none}
use Rattle.reg_account.proofs.Changes.{unretired_found}

adds_of_none : (rules : RulesValue) (year : ℕ) → period_of rules year ≡ None → (row : RetirementRow)
    → cond (is_row_counted rules year row) row.amount 0 ≡ 0
adds_of_none rules year none row = go row.fate where
  go : (f : Fate) → cond (is_for_year rules year f && not row.reversed) row.amount 0 ≡ 0
  go (fate.Surrendered own) =
      ap (λ (o : Option ℕ). cond (option_map_or (λ n. eqb n own) o false && not row.reversed) row.amount 0) none
  go fate.Deleted = refl

sums_alike : (one other : RetirementRow → ℕ) → ((row : RetirementRow) → one row ≡ other row)
    → (rows : List RetirementRow) → sum_by one rows ≡ sum_by other rows
sums_alike one other alike [] = refl
sums_alike one other alike (row ∷ rows) =
    let e = sum_by-cons one row rows in
    let o = sum_by-cons other row rows in
    let same = alike row in
    let more = sums_alike one other alike rows in
    omega (arith, e, o, same, more)

pub surrendered_of_none : (rules : RulesValue) (a : AccountValue) (year : ℕ) → period_of rules year ≡ None
    → surrendered_for_year rules a year ≡ 0
surrendered_of_none rules a year none = sums_alike (λ row. cond (is_row_counted rules year row) row.amount 0) (λ row. 0)
    (adds_of_none rules year none) a.rows ∙ sum_of_none a.rows

-- the emissions of a year are within the limit
pub emissions_at_most : (emissions : List Emission) (year : ℕ) → AllByRecursion EmissionFits emissions
    → IfSome (emissions_in emissions year) (λ t. t ≤ MOST_EMISSIONS)
emissions_at_most [] year all = tt
emissions_at_most (e ∷ es) year all = go (eqb e.year year) (emissions_at_most es year all.1) where
  go : (b : Bool) → IfSome (option_map (λ (x : Emission). x.tonnes) (find (λ x. eqb x.year year) es))
      (λ t. t ≤ MOST_EMISSIONS)
      → IfSome (option_map (λ (x : Emission). x.tonnes) (cond b (Some e) (find (λ x. eqb x.year year) es)))
      (λ t. t ≤ MOST_EMISSIONS)
  go true more = all.0
  go false more = more

-- the determined figure of a year is within its limits
pub figure_fits_in : (figures : List Figure) (year : ℕ) → AllByRecursion (λ f. FigureFits f.tonnes) figures
    → IfSome (figure_in figures year) FigureFits
figure_fits_in [] year all = tt
figure_fits_in (f ∷ fs) year all = go (eqb f.year year) (figure_fits_in fs year all.1) where
  go : (b : Bool) → IfSome (option_map (λ (x : Figure). x.tonnes) (find (λ x. eqb x.year year) fs)) FigureFits
      → IfSome (option_map (λ (x : Figure). x.tonnes) (cond b (Some f) (find (λ x. eqb x.year year) fs))) FigureFits
  go true more = all.0
  go false more = more

-- emissions of earlier years, added to those of later ones
abbrev pub plus : ℕ → Result ℕ FigureFault → Result ℕ FigureFault
plus sum (Ok more) = Ok (sum + more)
plus sum (Err fault) = Err fault

pub one_more : (a : AccountValue) (y t : ℕ) (ys : List ℕ) → emissions_in a.emissions y ≡ Some t
    → emitted_or_missing a (y ∷ ys) ≡ plus t (emitted_or_missing a ys)
one_more a y t ys some =
    ap (λ o. emitted_unless a (y ∷ ys)
    (cond (is_none o) (Some y) (find (λ z. is_none (emissions_in a.emissions z)) ys))) some
    ∙ go (find (λ z. is_none (emissions_in a.emissions z)) ys) where
      sum : emitted_in a (y ∷ ys) ≡ t + emitted_in a ys
      sum = sum_by-cons (λ z. unwrap_or (emissions_in a.emissions z) 0) y ys
          ∙ ap (λ o. unwrap_or o 0 + emitted_in a ys) some

      go : (o : Option ℕ) → emitted_unless a (y ∷ ys) o ≡ plus t (emitted_unless a ys o)
      go (Some m) = refl
      go None = ap Ok sum

pub plus_plus : (s t : ℕ) (r : Result ℕ FigureFault) → plus s (plus t r) ≡ plus (s + t) r
plus_plus s t (Ok n) = ap Ok (omega arith)
plus_plus s t (Err f) = refl

pub year-laws : YearLaws
year-laws = record {
  set_emissions = λ a new year is.
      ap (option_map (λ (e : Emission). e.tonnes))
      (find_put (λ (e : Emission). e.year) 0 a.emissions new year (from_zero _ is.emissions_fit.rise))
      ∙ of_emissions (eqb new.year year) new (find (λ e. eqb e.year year) a.emissions);
  determine = λ a new year is.
      ap (option_map (λ (f : Figure). f.tonnes))
      (find_put (λ (f : Figure). f.year) 0 a.figures new year (from_zero _ is.figures_fit.rise))
      ∙ of_figures (eqb new.year year) new (find (λ f. eqb f.year year) a.figures);
} where
  of_emissions : (b : Bool) (new : Emission) (o : Option Emission)
      → option_map (λ (e : Emission). e.tonnes) (cond b (Some new) o)
      ≡ cond b (Some new.tonnes) (option_map (λ (e : Emission). e.tonnes) o)
  of_emissions true new o = refl
  of_emissions false new o = refl

  of_figures : (b : Bool) (new : Figure) (o : Option Figure)
      → option_map (λ (f : Figure). f.tonnes) (cond b (Some new) o)
      ≡ cond b (Some new.tonnes) (option_map (λ (f : Figure). f.tonnes) o)
  of_figures true new o = refl
  of_figures false new o = refl

figures_lowered : (s t e x : ℕ) (c : ℤ) → t + x ≡ s → pos t -ℤ pos e +ℤ c ≡ (pos s -ℤ pos e +ℤ c) -ℤ pos x
figures_lowered s t e x c same = omega (arith, ints, same)

pub figure-laws : FigureLaws
figure-laws = record {
  unretire = λ rules a number row year is found.
      ap (λ v. figure_of rules v year) (unretired_found a number row found)
      ∙ go rules a number row year
      (sum_marked (λ r. cond (is_row_counted rules year r) r.amount 0) (nothing rules year) 0 a.rows number row
      (from_zero _ is.rows_fit.rise) found) (is_in_period rules year)
      (emitted_or_missing a (years_counted rules year));
} where
  nothing : (rules : RulesValue) (year : ℕ) (x : RetirementRow)
      → cond (is_row_counted rules year (record x { reversed = true })) x.amount 0 ≡ 0
  nothing rules year x = by (is_for_year rules year x.fate) where
    by : (b : Bool) → cond (b && false) x.amount 0 ≡ 0
    by true = refl
    by false = refl

  go : (rules : RulesValue) (a : AccountValue) (number : ℕ) (row : RetirementRow) (year : ℕ)
      → surrendered_for_year rules (unretired_row number a row) year
      + cond (is_row_counted rules year row) row.amount 0
      ≡ surrendered_for_year rules a year
      → (within : Bool) (emitted : Result ℕ FigureFault)
      → cond within (figure_by rules (unretired_row number a row) year emitted) (Err YearOutsidePeriod)
      ≡ lowered_by (cond (is_row_counted rules year row) row.amount 0)
      (cond within (figure_by rules a year emitted) (Err YearOutsidePeriod))
  go rules a number row year same false emitted = refl
  go rules a number row year same true (Err f) = refl
  go rules a number row year same true (Ok e) =
      ap Ok (figures_lowered (surrendered_for_year rules a year)
      (surrendered_for_year rules (unretired_row number a row) year) e
      (cond (is_row_counted rules year row) row.amount 0) (correction_added rules a year) same)
