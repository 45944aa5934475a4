-- The allowances that were surrendered for a period.
use Rattle.std.proofs.Common.{◌≡◌, ◌≢◌, ℕ, ◌+◌, ◌≤◌, ◌<◌, Bool, true, false, cond, ◌&&◌, eqb, List, [], ◌∷◌, inl, inr}
use Rattle.std.proofs.Common.{◌⊎◌, refl, ap, arith}
use Rattle.std.specs.Prelude.{not}
use Rattle.std.specs.List.{sum_by, AllByRecursion}
use Rattle.std.proofs.lemmas.Bool.{ne_eqb}
use Rattle.std.proofs.lemmas.List.Sums.{sum_by-cons}
use Rattle.reg_base.specs.declared.limits.TheConstants.{MOST_PERIODS}
use Rattle.reg_base.specs.declared.kinds.AllowanceKind.{AllowanceKind}
use Rattle.reg_base.specs.declared.kinds.AllowanceKind.TheVariants.{General, Aviation}
use Rattle.reg_base.specs.declared.kinds.Retirement.TheVariants.{Surrendered}
use Rattle.reg_account.specs.declared.rows.Fate.{Fate}
use Rattle.reg_account.specs.declared.rows.Fate.TheVariants as fate
use Rattle.reg_account.specs.declared.rows.RetirementRow.{RetirementRow}
use Rattle.reg_account.specs.Rows.{is_same_kind, is_same_retirement, retirement_of, is_for, amount_in, retired_in}
use Rattle.reg_account.specs.Rows.{amount_for, surrendered_in, FateFits, RowFits}

-- what a row adds to a period it adds to the surrendered amount of its kind
at_most_both : (period : ℕ) (row : RetirementRow)
    → amount_for period row ≤ amount_in Surrendered General row + amount_in Surrendered Aviation row
at_most_both period row = go row.fate row.kind row.reversed where
  go : (f : Fate) (kind : AllowanceKind) (gone : Bool) → cond (is_for period f && not gone) row.amount 0
      ≤ cond (is_same_retirement (retirement_of f) Surrendered && (is_same_kind kind General && not gone)) row.amount 0
      + cond (is_same_retirement (retirement_of f) Surrendered && (is_same_kind kind Aviation && not gone)) row.amount 0
  go (fate.Surrendered own) General true = by (eqb period own) where
    by : (b : Bool) → cond (b && false) row.amount 0 ≤ 0
    by true = omega arith
    by false = omega arith
  go (fate.Surrendered own) Aviation true = by (eqb period own) where
    by : (b : Bool) → cond (b && false) row.amount 0 ≤ 0
    by true = omega arith
    by false = omega arith
  go (fate.Surrendered own) General false = by (eqb period own) where
    by : (b : Bool) → cond (b && true) row.amount 0 ≤ row.amount + 0
    by true = omega arith
    by false = omega arith
  go (fate.Surrendered own) Aviation false = by (eqb period own) where
    by : (b : Bool) → cond (b && true) row.amount 0 ≤ 0 + row.amount
    by true = omega arith
    by false = omega arith
  go fate.Deleted kind gone = omega arith

pub surrendered_at_most : (period : ℕ) (rows : List RetirementRow)
    → surrendered_in period rows ≤ retired_in Surrendered General rows + retired_in Surrendered Aviation rows
surrendered_at_most period [] = omega arith
surrendered_at_most period (row ∷ rows) =
    let e = sum_by-cons (amount_for period) row rows in
    let g = sum_by-cons (amount_in Surrendered General) row rows in
    let a = sum_by-cons (amount_in Surrendered Aviation) row rows in
    let one = at_most_both period row in
    let more = surrendered_at_most period rows in
    omega (arith, e, g, a, one, more)

-- for a period that there cannot be, nothing was surrendered
nothing_outside : (period : ℕ) (row : RetirementRow) → RowFits row → (period < 1) ⊎ (MOST_PERIODS < period)
    → amount_for period row ≡ 0
nothing_outside period row fits outside = go row.fate fits.period where
  go : (f : Fate) → FateFits f → cond (is_for period f && not row.reversed) row.amount 0 ≡ 0
  go (fate.Surrendered own) within =
      let other : period ≢ own =
      elim outside [ inl low ↦ omega (arith, low, within.low) | inr high ↦ omega (arith, high, within.high) ] in
      ap (λ b. cond (b && not row.reversed) row.amount 0) (ne_eqb period own other)
  go fate.Deleted fit = refl

pub none_outside : (period : ℕ) (rows : List RetirementRow) → AllByRecursion RowFits rows
    → (period < 1) ⊎ (MOST_PERIODS < period) → surrendered_in period rows ≡ 0
none_outside period [] all outside = refl
none_outside period (row ∷ rows) all outside =
    let e = sum_by-cons (amount_for period) row rows in
    let one = nothing_outside period row all.0 outside in
    let more = none_outside period rows all.1 outside in
    omega (arith, e, one, more)

-- a sum to which no row adds
pub sum_of_none : (rows : List RetirementRow) → sum_by (λ row. 0) rows ≡ 0
sum_of_none [] = refl
sum_of_none (row ∷ rows) = let e = sum_by-cons (λ (r : RetirementRow). 0) row rows in let more = sum_of_none rows in
    omega (arith, e, more)
