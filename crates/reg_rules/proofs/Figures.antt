-- The compliance figure of an account within its limits is within its own.
use Rattle.std.proofs.Common.{◌≡◌, ℕ, zero, suc, ◌+◌, ◌-◌, ◌*◌, ◌≤◌, Bool, true, false, cond, ◌&&◌, not, eqb, ℤ, pos}
use Rattle.std.proofs.Common.{◌-ℤ◌, ◌+ℤ◌, List, [], ◌∷◌, find, Option, Some, None, Result, Ok, Err, refl, ap, subst}
use Rattle.std.proofs.Common.{arith}
use Rattle.std.specs.Prelude.{unwrap_or}
use Rattle.std.specs.Option.{option_map, option_map_or}
use Rattle.std.specs.List.{sum_by, AllByRecursion}
use Rattle.std.proofs.lemmas.Int.{ints}
use Rattle.std.proofs.lemmas.Option.{same_Some, none-some}
use Rattle.std.proofs.lemmas.List.Elements.{recursion_from_All}
use Rattle.std.proofs.lemmas.List.Sums.{sum_by-cons}
use Rattle.reg_base.specs.declared.limits.TheConstants.{MOST_HELD, MOST_EMISSIONS}
use Rattle.reg_base.specs.declared.kinds.AllowanceKind.{AllowanceKind}
use Rattle.reg_base.specs.declared.kinds.AllowanceKind.TheVariants.{General, Aviation}
use Rattle.reg_base.specs.Numbers.{IsYearNo}
use Rattle.reg_base.specs.Rising.{count_up}
use Rattle.reg_base.specs.Periods.{is_within}
use Rattle.reg_base.specs.Rules.{RulesValue, AreRules, period_of, period_with, is_year_of, is_in_period}
use Rattle.reg_base.specs.declared.kinds.Retirement.TheVariants.{Surrendered}
use Rattle.reg_account.specs.declared.rows.Fate.{Fate}
use Rattle.reg_account.specs.declared.rows.Fate.TheVariants as fate
use Rattle.reg_account.specs.declared.rows.RetirementRow.{RetirementRow}
use Rattle.reg_account.specs.declared.corrections.Correction.{Correction}
use Rattle.reg_account.specs.Corrections.{LaterFits, CorrectionsFit, factor_in}
use Rattle.reg_account.specs.declared.years.Emission.{Emission}
use Rattle.reg_account.specs.declared.figure.FigureFault.TheVariants.{YearOutsidePeriod}
use Rattle.reg_account.specs.Rows.{retirement_of, is_same_retirement, is_same_kind, amount_in, retired_in}
use Rattle.reg_account.specs.Years.{emissions_in, EmissionFits, FigureFits}
use Rattle.reg_account.specs.Account.{AccountValue, IsAccount, CorrectionFits, correction_of}
use Rattle.reg_account.specs.Figure.{is_for_year, is_row_counted, surrendered_for_year, correction_added, emitted_in}
use Rattle.reg_account.specs.Figure.{years_from, years_counted, first_missing, figure_with, figure_by, emitted_unless}
use Rattle.reg_account.specs.Figure.{figure_of}

-- a row counts for a figure at most as it counts for its kind
row-counted : (rules : RulesValue) (year : ℕ) (f : Fate) (kind : AllowanceKind) (reversed : Bool) (amount : ℕ)
    → cond (is_for_year rules year f && not reversed) amount 0
    ≤ cond (is_same_retirement (retirement_of f) Surrendered && (is_same_kind kind General && not reversed)) amount 0
    + cond (is_same_retirement (retirement_of f) Surrendered && (is_same_kind kind Aviation && not reversed)) amount 0
row-counted rules year fate.Deleted kind reversed amount = omega arith
row-counted rules year (fate.Surrendered period) kind reversed amount =
    go (is_year_of rules period year) kind reversed where
      go : (b : Bool) (kind : AllowanceKind) (reversed : Bool)
          → cond (b && not reversed) amount 0 ≤ cond (is_same_kind kind General && not reversed) amount 0
          + cond (is_same_kind kind Aviation && not reversed) amount 0
      go true General true = omega arith
      go true General false = omega arith
      go true Aviation true = omega arith
      go true Aviation false = omega arith
      go false kind reversed = omega arith

rows-counted : (rules : RulesValue) (year : ℕ) (rows : List RetirementRow)
    → sum_by (λ row. cond (is_row_counted rules year row) row.amount 0) rows ≤ retired_in Surrendered General rows
    + retired_in Surrendered Aviation rows
rows-counted rules year [] = omega arith
rows-counted rules year (x ∷ xs) =
    let here : cond (is_row_counted rules year x) x.amount 0 ≤ amount_in Surrendered General x
    + amount_in Surrendered Aviation x = row-counted rules year x.fate x.kind x.reversed x.amount in
    let more = rows-counted rules year xs in
    let f = λ (row : RetirementRow). cond (is_row_counted rules year row) row.amount 0 in
    let counted : sum_by f (x ∷ xs) ≡ f x + sum_by f xs = sum_by-cons f x xs in
    let general : retired_in Surrendered General (x ∷ xs)
    ≡ amount_in Surrendered General x + retired_in Surrendered General xs =
    sum_by-cons (amount_in Surrendered General) x xs in
    let aviation : retired_in Surrendered Aviation (x ∷ xs)
    ≡ amount_in Surrendered Aviation x + retired_in Surrendered Aviation xs =
    sum_by-cons (amount_in Surrendered Aviation) x xs in
    omega (arith, here, more, counted, general, aviation)

found-fits : (year : ℕ) (es : List Emission) → AllByRecursion EmissionFits es
    → unwrap_or (emissions_in es year) 0 ≤ MOST_EMISSIONS
found-fits year [] all = omega arith
found-fits year (e ∷ es) all = go (eqb e.year year) all.0 (found-fits year es all.1) where
  go : (b : Bool) → EmissionFits e → unwrap_or (emissions_in es year) 0 ≤ MOST_EMISSIONS
      → unwrap_or (option_map (λ (x : Emission). x.tonnes) (cond b (Some e) (find (λ x. eqb x.year year) es))) 0
      ≤ MOST_EMISSIONS
  go true fits more = fits
  go false fits more = more

emitted-fit : (v : AccountValue) (first n : ℕ) → AllByRecursion EmissionFits v.emissions
    → emitted_in v (count_up first n) ≤ n * MOST_EMISSIONS
emitted-fit v first zero all = omega arith
emitted-fit v first (suc n) all =
    let here = found-fits first v.emissions all in
    let more = emitted-fit v (first + 1) n all in
    let f = λ (year : ℕ). unwrap_or (emissions_in v.emissions year) 0 in
    let sum : sum_by f (first ∷ count_up (first + 1) n) ≡ f first + sum_by f (count_up (first + 1) n) =
    sum_by-cons f first (count_up (first + 1) n) in
    omega (arith, here, more, sum)

-- what a search finds has what all of the list have
found-has : {X : Type 0} (P : X → Type 0) (test : X → Bool) (xs : List X) (x : X) → AllByRecursion P xs
    → find test xs ≡ Some x → P x
found-has P test [] x all found = absurd (none-some x found)
found-has {X} P test (y ∷ ys) x all found = go (test y) found (found-has P test ys x all.1) where
  go : (b : Bool) → cond b (Some y) (find test ys) ≡ Some x → (find test ys ≡ Some x → P x) → P x
  go true here more = subst P (same_Some y x here) all.0
  go false here more = more here

-- the years of a period up to this one are at most those from 2021 on
emitted-few : (rules : RulesValue) (v : AccountValue) (year : ℕ) → AreRules rules → IsYearNo year
    → AllByRecursion EmissionFits v.emissions → emitted_in v (years_counted rules year) ≤ 80 * MOST_EMISSIONS
emitted-few rules v year are in_range all = go (period_with rules year) refl where
  go : (o : Option (ℕ × ℕ)) → period_with rules year ≡ o
      → emitted_in v (option_map_or (years_from year) o []) ≤ 80 * MOST_EMISSIONS
  go None found = omega arith
  go (Some period) found =
      let own = found-has (λ p. IsYearNo p.0 × IsYearNo p.1) (λ p. is_within p year) rules.periods period
      (recursion_from_All (λ (p : ℕ × ℕ). IsYearNo p.0 × IsYearNo p.1) rules.periods are.each_year) found in
      let from = own.0.low in
      let to = in_range.high in
      let sum = emitted-fit v period.0 (year + 1 - period.0) all in
      omega (arith, from, to, sum)

zero-fits : CorrectionFits (pos 0)
zero-fits = record { low = omega (arith, ints); high = omega (arith, ints) }

-- the factor of a period is within its limits
listed-fits : (corrections : List Correction) (period : ℕ) → CorrectionsFit corrections
    → CorrectionFits (factor_in corrections period)
listed-fits corrections period fit = go (find (λ c. eqb c.period period) corrections) refl where
  go : (o : Option Correction) → find (λ c. eqb c.period period) corrections ≡ o
      → CorrectionFits (option_map_or (λ (c : Correction). c.factor) o (pos 0))
  go None found = zero-fits
  go (Some c) found = (found-has LaterFits (λ d. eqb d.period period) corrections c fit.each found).factor

factor-fits : (v : AccountValue) (period : ℕ) → IsAccount v → CorrectionFits (correction_of v period)
factor-fits v period is = go (eqb period 1) where
  go : (b : Bool) → CorrectionFits (cond b v.correction (factor_in v.corrections period))
  go true = is.correction_fits
  go false = listed-fits v.corrections period is.corrections_fit

added-fits : (rules : RulesValue) (v : AccountValue) (year : ℕ) → IsAccount v
    → CorrectionFits (correction_added rules v year)
added-fits rules v year is = go (period_of rules year) where
  go : (o : Option ℕ) → CorrectionFits (option_map_or (correction_of v) o (pos 0))
  go None = zero-fits
  go (Some period) = factor-fits v period is

within : (surrendered emitted years : ℕ) (correction : ℤ) → surrendered ≤ MOST_HELD + MOST_HELD
    → emitted ≤ years * MOST_EMISSIONS → years ≤ 80 → CorrectionFits correction
    → FigureFits (pos surrendered -ℤ pos emitted +ℤ correction)
within surrendered emitted years correction most few count fits =
    let low = fits.low in
    let high = fits.high in
    record { low = omega (arith, ints, most, few, count, low); high = omega (arith, ints, most, few, count, high) }

same-ok : {E X : Type 0} (x y : X) → ◌≡◌ {A = Result X E} (Ok x) (Ok y) → x ≡ y
same-ok {E} {X} x y same = ap value same where
  value : Result X E → X
  value (Ok z) = z
  value (Err fault) = x

pub figure-fits : (rules : RulesValue) (v : AccountValue) (year : ℕ) → AreRules rules → IsYearNo year → IsAccount v
    → (figure : ℤ) → figure_of rules v year ≡ Ok figure → FigureFits figure
figure-fits rules v year are in_range is figure found =
    go (is_in_period rules year) (first_missing v (years_counted rules year)) found where
      all : FigureFits (figure_with rules v year (emitted_in v (years_counted rules year)))
      all =
          let sums = rows-counted rules year v.rows in
          let general = is.retired_fits.at Surrendered General in
          let aviation = is.retired_fits.at Surrendered Aviation in
          within (surrendered_for_year rules v year) (emitted_in v (years_counted rules year)) 80
          (correction_added rules v year)
          (omega (arith, sums, general, aviation)) (emitted-few rules v year are in_range is.emissions_fit.each)
          (omega arith) (added-fits rules v year is)

      go : (b : Bool) (o : Option ℕ)
          → cond b (figure_by rules v year (emitted_unless v (years_counted rules year) o)) (Err YearOutsidePeriod)
          ≡ Ok figure → FigureFits figure
      go true None same = subst FigureFits
          (same-ok (figure_with rules v year (emitted_in v (years_counted rules year))) figure same) all
      go true (Some missing) same = absurd (cc)
      go false o same = absurd (cc)
