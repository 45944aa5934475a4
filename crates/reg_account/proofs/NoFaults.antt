-- An account is within its limits exactly if it has no fault.
use Rattle.std.proofs.Common.{◌≡◌, ℕ, suc, ◌+◌, ◌≤◌, Bool, true, false, cond, ◌||◌, leb, ltb, List, [], ◌∷◌, length}
use Rattle.std.proofs.Common.{Some, None, T, refl, sym, ap, subst, ◌∙◌, arith, add-one}
use Rattle.std.specs.Prelude.{not, find, ℤ, pos, ◌-ℤ◌, ◌≤ℤ◌, int_lt}
use Rattle.std.specs.List.{list_any, All, AllByRecursion}
use Rattle.std.specs.Int.Signed.{lt_z_no}
use Rattle.std.specs.Ordering.{int_eq}
use Rattle.std.proofs.lemmas.Int.{ints}
use Rattle.std.proofs.lemmas.Bool.{or_parts, or_from, and_from, and_parts, leb-true, le-leb, ltb-false, le-ltb}
use Rattle.std.proofs.lemmas.Bool.{not_from_true}
use Rattle.std.proofs.lemmas.List.Elements.{recursion_from_All}
use Rattle.std.proofs.lemmas.Option.{none-some}
use Rattle.reg_base.specs.declared.limits.TheConstants.{MOST_HELD, MOST_RETIRED, MOST_USERS, MOST_TRUSTED, MOST_ROWS}
use Rattle.reg_base.specs.declared.limits.TheConstants.{MOST_CORRECTION, MOST_EMISSIONS, MOST_FIGURE, MOST_PERIODS}
use Rattle.reg_base.specs.declared.kinds.AllowanceKind.{AllowanceKind}
use Rattle.reg_base.specs.declared.kinds.AllowanceKind.TheVariants.{General, Aviation}
use Rattle.reg_base.specs.Numbers.{IsAccountNo, IsHolderNo}
use Rattle.reg_base.specs.Rising.{IsRising, is_rising_from}
use Rattle.reg_base.proofs.lemmas.RisesFrom.{RisesFrom}
use Rattle.reg_account.specs.declared.account_parts.AccountFault.{AccountFault}
use Rattle.reg_account.specs.declared.account_parts.AccountFault.TheVariants as fault
use Rattle.reg_account.specs.declared.account_parts.AccountFault.TheVariants.{Holding, Users, Trusted, Rows, Retired}
use Rattle.reg_account.specs.declared.account_parts.AccountFault.TheVariants.{Emissions, Figures}
use Rattle.reg_account.specs.declared.corrections.Correction.{Correction}
use Rattle.reg_account.specs.declared.users.Representative.{Representative}
use Rattle.reg_account.specs.declared.trusted.TrustedEntry.{TrustedEntry}
use Rattle.reg_base.specs.declared.kinds.Retirement.{Retirement}
use Rattle.reg_base.specs.declared.kinds.Retirement.TheVariants.{Surrendered, Deleted}
use Rattle.reg_account.specs.declared.rows.Fate.{Fate}
use Rattle.reg_account.specs.declared.rows.Fate.TheVariants as fate
use Rattle.reg_account.specs.declared.rows.RetirementRow.{RetirementRow}
use Rattle.reg_account.specs.declared.years.Emission.{Emission}
use Rattle.reg_account.specs.declared.years.Figure.{Figure}
use Rattle.reg_account.specs.Corrections.{CorrectionFits, LaterFits, CorrectionsFit, correction_periods}
use Rattle.reg_account.specs.Corrections.{is_factor_unfit, is_later_unfit, are_corrections_unfit}
use Rattle.reg_account.specs.Users.{UserIsInRange, UsersFit, user_numbers, are_users_unfit}
use Rattle.reg_account.specs.Trusted.{EntryIsInRange, TrustedFit, trusted_numbers, are_trusted_unfit}
use Rattle.reg_account.specs.Rows.{FateFits, RowFits, RowIsInRange, RowsFit, RetiredFits, row_numbers, retired_in}
use Rattle.reg_account.specs.Rows.{is_fate_unfit, is_row_unfit, are_rows_unfit, is_too_much, is_too_much_retired}
use Rattle.reg_account.specs.Years.{EmissionFits, EmissionIsInRange, EmissionsFit, FigureFits, FigureIsInRange}
use Rattle.reg_account.specs.Years.{FiguresFit, emission_years, figure_years, is_emission_unfit, is_figure_unfit}
use Rattle.reg_account.specs.Years.{are_emissions_unfit, are_figures_unfit}
use Rattle.reg_account.specs.Account.{AccountValue, IsAccount, account_has, first_account_fault, FitAccountsHaveNoFault}
use Rattle.reg_account.proofs.Keyed.{from_zero, is_rising}

-- tests of rising lists
rises : (low : ℕ) (xs : List ℕ) → is_rising_from low xs ≡ true → RisesFrom low xs
rises low [] holds = tt
rises low (x ∷ xs) holds =
    let both = and_parts (leb low x) (is_rising_from (x + 1) xs) holds in
    (leb-true low x both.0, rises (suc x) xs (let h = both.1 in rw add-one at h))

shows : (low : ℕ) (xs : List ℕ) → RisesFrom low xs → is_rising_from low xs ≡ true
shows low [] rises' = refl
shows low (x ∷ xs) rises' = and_from _ _ (le-leb low x rises'.0) (rw add-one (shows (suc x) xs rises'.1))

rising_of : (xs : List ℕ) → not (is_rising_from 0 xs) ≡ false → IsRising xs
rising_of xs not_so = is_rising 0 xs (rises 0 xs (go (is_rising_from 0 xs) not_so)) where
  go : (b : Bool) → not b ≡ false → b ≡ true
  go true e = refl
  go false e = absurd cc

of_rising : (xs : List ℕ) → IsRising xs → not (is_rising_from 0 xs) ≡ false
of_rising xs rising = not_from_true (is_rising_from 0 xs) (shows 0 xs (from_zero xs rising))

-- tests of each item
none_unfit : {X : Type 0} (test : X → Bool) (P : X → Type 0) → ((x : X) → test x ≡ false → P x) → (xs : List X)
    → list_any test xs ≡ false → AllByRecursion P xs
none_unfit test P fits [] not_so = tt
none_unfit test P fits (x ∷ xs) not_so = let both = or_parts (test x) (list_any test xs) not_so in
    (fits x both.0, none_unfit test P fits xs both.1)

all_fit : {X : Type 0} (test : X → Bool) (P : X → Type 0) → ((x : X) → P x → test x ≡ false) → (xs : List X)
    → AllByRecursion P xs → list_any test xs ≡ false
all_fit test P fits [] all = refl
all_fit test P fits (x ∷ xs) all = or_from _ _ (fits x all.0) (all_fit test P fits xs all.1)

-- tests of signed numbers
not_below : (a b : ℤ) → int_lt a b ≡ false → b ≤ℤ a
not_below a b not_so = lt_z_no (subst (λ t. T (not t)) (sym not_so) tt)

at_least : (a b : ℤ) → b ≤ℤ a → int_lt a b ≡ false
at_least a b le = grind (arith, ints)

-- each fault
fit_factor : (factor : ℤ) → is_factor_unfit factor ≡ false → CorrectionFits factor
fit_factor factor not_so =
    let both = or_parts (int_lt factor (pos 0 -ℤ MOST_CORRECTION)) (int_lt MOST_CORRECTION factor) not_so in
    record { low = not_below factor (pos 0 -ℤ MOST_CORRECTION) both.0; high = not_below MOST_CORRECTION factor both.1 }

factor_fits : (factor : ℤ) → CorrectionFits factor → is_factor_unfit factor ≡ false
factor_fits factor fit = or_from _ _ (at_least factor (pos 0 -ℤ MOST_CORRECTION) fit.low)
    (at_least MOST_CORRECTION factor fit.high)

fit_later : (c : Correction) → is_later_unfit c ≡ false → LaterFits c
fit_later c not_so =
    let both = or_parts (ltb c.period 2 || ltb MOST_PERIODS c.period)
    (int_eq c.factor (pos 0) || is_factor_unfit c.factor) not_so in
    let periods = or_parts (ltb c.period 2) (ltb MOST_PERIODS c.period) both.0 in
    let factors = or_parts (int_eq c.factor (pos 0)) (is_factor_unfit c.factor) both.1 in
    record {
      later = record { low = ltb-false c.period 2 periods.0; high = ltb-false MOST_PERIODS c.period periods.1 };
      some = factors.0;
      factor = fit_factor c.factor factors.1;
    }

later_fits : (c : Correction) → LaterFits c → is_later_unfit c ≡ false
later_fits c fit =
    or_from _ _ (or_from _ _ (le-ltb c.period 2 fit.later.low) (le-ltb MOST_PERIODS c.period fit.later.high))
    (or_from _ _ fit.some (factor_fits c.factor fit.factor))

fit_corrections : (corrections : List Correction) → are_corrections_unfit corrections ≡ false
    → CorrectionsFit corrections
fit_corrections corrections not_so =
    let both = or_parts (not (is_rising_from 0 (correction_periods corrections))) (list_any is_later_unfit corrections)
    not_so in
    record {
      rise = rising_of (correction_periods corrections) both.0;
      each = none_unfit is_later_unfit LaterFits fit_later corrections both.1;
    }

corrections_fit : (corrections : List Correction) → CorrectionsFit corrections
    → are_corrections_unfit corrections ≡ false
corrections_fit corrections fit =
    or_from _ _ (of_rising (correction_periods corrections) fit.rise)
    (all_fit is_later_unfit LaterFits later_fits corrections fit.each)

fit_fate : (f : Fate) → is_fate_unfit f ≡ false → FateFits f
fit_fate (fate.Surrendered period) not_so =
    let both = or_parts (ltb period 1) (ltb MOST_PERIODS period) not_so in
    record { low = ltb-false period 1 both.0; high = ltb-false MOST_PERIODS period both.1 }
fit_fate fate.Deleted not_so = tt

fate_fits : (f : Fate) → FateFits f → is_fate_unfit f ≡ false
fate_fits (fate.Surrendered period) fit = or_from _ _ (le-ltb period 1 fit.low) (le-ltb MOST_PERIODS period fit.high)
fate_fits fate.Deleted fit = refl

fit_row : (row : RetirementRow) → is_row_unfit row ≡ false → RowFits row
fit_row row not_so =
    let one = or_parts (ltb row.amount 1) (ltb MOST_RETIRED row.amount || is_fate_unfit row.fate) not_so in
    let two = or_parts (ltb MOST_RETIRED row.amount) (is_fate_unfit row.fate) one.1 in
    record {
      some = ltb-false row.amount 1 one.0;
      most = ltb-false MOST_RETIRED row.amount two.0;
      period = fit_fate row.fate two.1;
    }

row_fits : (row : RetirementRow) → RowFits row → is_row_unfit row ≡ false
row_fits row fit = or_from _ _ (le-ltb row.amount 1 fit.some)
    (or_from _ _ (le-ltb MOST_RETIRED row.amount fit.most) (fate_fits row.fate fit.period))

fit_figure : (f : Figure) → is_figure_unfit f ≡ false → FigureFits f.tonnes
fit_figure f not_so = let both =
    or_parts (int_lt f.tonnes (pos 0 -ℤ MOST_FIGURE)) (int_lt MOST_FIGURE f.tonnes) not_so in
    record { low = not_below f.tonnes (pos 0 -ℤ MOST_FIGURE) both.0; high = not_below MOST_FIGURE f.tonnes both.1 }

figure_fits : (f : Figure) → FigureFits f.tonnes → is_figure_unfit f ≡ false
figure_fits f fit = or_from _ _ (at_least f.tonnes (pos 0 -ℤ MOST_FIGURE) fit.low)
    (at_least MOST_FIGURE f.tonnes fit.high)

fit_users : (users : List Representative) → are_users_unfit users ≡ false → AllByRecursion UserIsInRange users
    → UsersFit users
fit_users users not_so ranged =
    let both = or_parts (ltb MOST_USERS (length users)) (not (is_rising_from 0 (user_numbers users))) not_so in
    record {
      few = ltb-false MOST_USERS (length users) both.0;
      rise = rising_of (user_numbers users) both.1;
      in_range = ranged;
    }

users_fit : (users : List Representative) → UsersFit users → are_users_unfit users ≡ false
users_fit users fit = or_from _ _ (le-ltb MOST_USERS (length users) fit.few) (of_rising (user_numbers users) fit.rise)

fit_trusted : (entries : List TrustedEntry) → are_trusted_unfit entries ≡ false → AllByRecursion EntryIsInRange entries
    → TrustedFit entries
fit_trusted entries not_so ranged =
    let both = or_parts (ltb MOST_TRUSTED (length entries)) (not (is_rising_from 0 (trusted_numbers entries))) not_so in
    record {
      few = ltb-false MOST_TRUSTED (length entries) both.0;
      rise = rising_of (trusted_numbers entries) both.1;
      in_range = ranged;
    }

trusted_fit : (entries : List TrustedEntry) → TrustedFit entries → are_trusted_unfit entries ≡ false
trusted_fit entries fit =
    or_from _ _ (le-ltb MOST_TRUSTED (length entries) fit.few) (of_rising (trusted_numbers entries) fit.rise)

fit_rows : (rows : List RetirementRow) → are_rows_unfit rows ≡ false → AllByRecursion RowIsInRange rows → RowsFit rows
fit_rows rows not_so ranged =
    let one = or_parts (ltb MOST_ROWS (length rows))
    (not (is_rising_from 0 (row_numbers rows)) || list_any is_row_unfit rows) not_so in
    let two = or_parts (not (is_rising_from 0 (row_numbers rows))) (list_any is_row_unfit rows) one.1 in
    record {
      few = ltb-false MOST_ROWS (length rows) one.0;
      rise = rising_of (row_numbers rows) two.0;
      each = none_unfit is_row_unfit RowFits fit_row rows two.1;
      in_range = ranged;
    }

rows_fit : (rows : List RetirementRow) → RowsFit rows → are_rows_unfit rows ≡ false
rows_fit rows fit =
    or_from _ _ (le-ltb MOST_ROWS (length rows) fit.few)
    (or_from _ _ (of_rising (row_numbers rows) fit.rise) (all_fit is_row_unfit RowFits row_fits rows fit.each))

fit_retired : (rows : List RetirementRow) → is_too_much_retired rows ≡ false → RetiredFits rows
fit_retired rows not_so =
    let ways = or_parts (is_too_much rows Surrendered) (is_too_much rows Deleted) not_so in
    let s = or_parts (ltb MOST_RETIRED (retired_in Surrendered General rows))
    (ltb MOST_RETIRED (retired_in Surrendered Aviation rows)) ways.0 in
    let d = or_parts (ltb MOST_RETIRED (retired_in Deleted General rows))
    (ltb MOST_RETIRED (retired_in Deleted Aviation rows)) ways.1 in
    record { at = by s.0 s.1 d.0 d.1 } where
      by : ltb MOST_RETIRED (retired_in Surrendered General rows) ≡ false
          → ltb MOST_RETIRED (retired_in Surrendered Aviation rows) ≡ false
          → ltb MOST_RETIRED (retired_in Deleted General rows) ≡ false
          → ltb MOST_RETIRED (retired_in Deleted Aviation rows) ≡ false
          → (way : Retirement) (kind : AllowanceKind) → retired_in way kind rows ≤ MOST_RETIRED
      by a b c d Surrendered General = ltb-false MOST_RETIRED (retired_in Surrendered General rows) a
      by a b c d Surrendered Aviation = ltb-false MOST_RETIRED (retired_in Surrendered Aviation rows) b
      by a b c d Deleted General = ltb-false MOST_RETIRED (retired_in Deleted General rows) c
      by a b c d Deleted Aviation = ltb-false MOST_RETIRED (retired_in Deleted Aviation rows) d

retired_fit : (rows : List RetirementRow) → RetiredFits rows → is_too_much_retired rows ≡ false
retired_fit rows fit =
    or_from _ _ (or_from _ _ (le-ltb MOST_RETIRED _ (fit.at Surrendered General))
    (le-ltb MOST_RETIRED _ (fit.at Surrendered Aviation)))
    (or_from _ _ (le-ltb MOST_RETIRED _ (fit.at Deleted General)) (le-ltb MOST_RETIRED _ (fit.at Deleted Aviation)))

fit_emissions : (emissions : List Emission) → are_emissions_unfit emissions ≡ false
    → AllByRecursion EmissionIsInRange emissions → EmissionsFit emissions
fit_emissions emissions not_so ranged =
    let both = or_parts (not (is_rising_from 0 (emission_years emissions))) (list_any is_emission_unfit emissions)
    not_so in
    record {
      rise = rising_of (emission_years emissions) both.0;
      each = none_unfit is_emission_unfit EmissionFits (λ e not_so'. ltb-false MOST_EMISSIONS e.tonnes not_so')
          emissions both.1;
      in_range = ranged;
    }

emissions_fit : (emissions : List Emission) → EmissionsFit emissions → are_emissions_unfit emissions ≡ false
emissions_fit emissions fit =
    or_from _ _ (of_rising (emission_years emissions) fit.rise)
    (all_fit is_emission_unfit EmissionFits (λ e fits. le-ltb MOST_EMISSIONS e.tonnes fits) emissions fit.each)

fit_figures : (figures : List Figure) → are_figures_unfit figures ≡ false → AllByRecursion FigureIsInRange figures
    → FiguresFit figures
fit_figures figures not_so ranged =
    let both = or_parts (not (is_rising_from 0 (figure_years figures))) (list_any is_figure_unfit figures) not_so in
    record {
      rise = rising_of (figure_years figures) both.0;
      each = none_unfit is_figure_unfit (λ f. FigureFits f.tonnes) fit_figure figures both.1;
      in_range = ranged;
    }

figures_fit : (figures : List Figure) → FiguresFit figures → are_figures_unfit figures ≡ false
figures_fit figures fit =
    or_from _ _ (of_rising (figure_years figures) fit.rise)
    (all_fit is_figure_unfit (λ f. FigureFits f.tonnes) figure_fits figures fit.each)

-- a search that finds nothing
none_of : (test : AccountFault → Bool) (x : AccountFault) (xs : List AccountFault) → find test (x ∷ xs) ≡ None
    → (test x ≡ false) × (find test xs ≡ None)
none_of test x xs none = go (test x) none where
  go : (b : Bool) → cond b (Some x) (find test xs) ≡ None → (b ≡ false) × (find test xs ≡ None)
  go true e = absurd (none-some x (sym e))
  go false e = (refl, e)

not_it : (test : AccountFault → Bool) (x : AccountFault) (xs : List AccountFault) → test x ≡ false → find test xs ≡ None
    → find test (x ∷ xs) ≡ None
not_it test x xs not_so none = ap (λ b. cond b (Some x) (find test xs)) not_so ∙ none

pub fit_of_no_fault : (a : AccountValue) → IsAccountNo a.number → IsHolderNo a.holder → All UserIsInRange a.users
    → All EntryIsInRange a.trusted → All RowIsInRange a.rows → All EmissionIsInRange a.emissions
    → All FigureIsInRange a.figures
    → first_account_fault a ≡ None → IsAccount a
fit_of_no_fault a number holder users trusted rows emissions figures none =
    let one = none_of (account_has a) fault.Correction
    (Holding ∷ Users ∷ Trusted ∷ Rows ∷ Retired ∷ Emissions ∷ Figures ∷ []) none in
    let two = none_of (account_has a) Holding (Users ∷ Trusted ∷ Rows ∷ Retired ∷ Emissions ∷ Figures ∷ []) one.1 in
    let of_users = none_of (account_has a) Users (Trusted ∷ Rows ∷ Retired ∷ Emissions ∷ Figures ∷ []) two.1 in
    let of_trusted = none_of (account_has a) Trusted (Rows ∷ Retired ∷ Emissions ∷ Figures ∷ []) of_users.1 in
    let three = none_of (account_has a) Rows (Retired ∷ Emissions ∷ Figures ∷ []) of_trusted.1 in
    let four = none_of (account_has a) Retired (Emissions ∷ Figures ∷ []) three.1 in
    let five = none_of (account_has a) Emissions (Figures ∷ []) four.1 in
    let six = none_of (account_has a) Figures [] five.1 in
    let c = or_parts (is_factor_unfit a.correction) (are_corrections_unfit a.corrections) one.0 in
    let h = or_parts (ltb MOST_HELD a.held.general) (ltb MOST_HELD a.held.aviation) two.0 in
    record {
      own_number = number;
      own_holder = holder;
      correction_fits = fit_factor a.correction c.0;
      corrections_fit = fit_corrections a.corrections c.1;
      holdings_fit = record {
        general = ltb-false MOST_HELD a.held.general h.0;
        aviation = ltb-false MOST_HELD a.held.aviation h.1;
      };
      users_fit = fit_users a.users of_users.0 (recursion_from_All UserIsInRange a.users users);
      trusted_fit = fit_trusted a.trusted of_trusted.0 (recursion_from_All EntryIsInRange a.trusted trusted);
      rows_fit = fit_rows a.rows three.0 (recursion_from_All RowIsInRange a.rows rows);
      retired_fits = fit_retired a.rows four.0;
      emissions_fit = fit_emissions a.emissions five.0 (recursion_from_All EmissionIsInRange a.emissions emissions);
      figures_fit = fit_figures a.figures six.0 (recursion_from_All FigureIsInRange a.figures figures);
    }

pub fit-no_fault : FitAccountsHaveNoFault
fit-no_fault a is =
    not_it (account_has a) fault.Correction (Holding ∷ Users ∷ Trusted ∷ Rows ∷ Retired ∷ Emissions ∷ Figures ∷ [])
    (or_from _ _ (factor_fits a.correction is.correction_fits) (corrections_fit a.corrections is.corrections_fit))
    (not_it (account_has a) Holding (Users ∷ Trusted ∷ Rows ∷ Retired ∷ Emissions ∷ Figures ∷ [])
    (or_from _ _ (le-ltb MOST_HELD a.held.general is.holdings_fit.general)
    (le-ltb MOST_HELD a.held.aviation is.holdings_fit.aviation))
    (not_it (account_has a) Users (Trusted ∷ Rows ∷ Retired ∷ Emissions ∷ Figures ∷ []) (users_fit a.users is.users_fit)
    (not_it (account_has a) Trusted (Rows ∷ Retired ∷ Emissions ∷ Figures ∷ []) (trusted_fit a.trusted is.trusted_fit)
    (not_it (account_has a) Rows (Retired ∷ Emissions ∷ Figures ∷ []) (rows_fit a.rows is.rows_fit)
    (not_it (account_has a) Retired (Emissions ∷ Figures ∷ []) (retired_fit a.rows is.retired_fits)
    (not_it (account_has a) Emissions (Figures ∷ []) (emissions_fit a.emissions is.emissions_fit)
    (not_it (account_has a) Figures [] (figures_fit a.figures is.figures_fit) refl)))))))
