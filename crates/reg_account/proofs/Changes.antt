-- The changes keep an account within its limits.
use Rattle.std.proofs.Common.{◌≡◌, ℕ, ◌+◌, ◌-◌, ◌<◌, ◌≤◌, ◌++◌, List, length, take, Option, Some, None, refl, sym, ap}
use Rattle.std.proofs.Common.{subst, ◌∙◌, arith}
use Rattle.std.specs.Prelude.{MatchOption}
use Rattle.std.specs.Option.{option_map_or}
use Rattle.std.proofs.lemmas.Option.{same_Some}
use Rattle.std.proofs.Math.Seq.{take-append_seam}
use Rattle.reg_base.specs.declared.limits.TheConstants.{MOST_HELD, MOST_TRUSTED}
use Rattle.reg_base.specs.declared.kinds.AllowanceKind.{AllowanceKind}
use Rattle.reg_base.specs.declared.kinds.AllowanceKind.TheVariants.{General, Aviation}
use Rattle.reg_account.specs.declared.account_parts.Holdings.{Holdings}
use Rattle.reg_account.specs.declared.trusted.TrustedEntry.{TrustedEntry}
use Rattle.reg_account.specs.declared.rows.RetirementRow.{RetirementRow}
use Rattle.reg_account.specs.declared.years.Emission.{Emission}
use Rattle.reg_account.specs.declared.years.Figure.{Figure}
use Rattle.reg_account.specs.Trusted.{TrustedFit, EntryIsInRange, with_entry, without_entry}
use Rattle.reg_account.specs.Rows.{row_in, FateFits, RowIsInRange}
use Rattle.reg_account.specs.Years.{EmissionsFit, FiguresFit, EmissionFits, FigureFits, EmissionIsInRange}
use Rattle.reg_account.specs.Years.{FigureIsInRange, with_emission, with_figure}
use Rattle.reg_account.specs.Account.{AccountValue, IsAccount, HoldingsFit, amount_of, with_amount, held_by, retired}
use Rattle.reg_account.specs.Account.{unretired_row, unretired, CanRetire, CanUnretire, CanUnretireRow}
use Rattle.reg_account.specs.Laws.{ChangesKeepLimits}
use Rattle.reg_account.proofs.Keyed.{rising_put, each_put, few_put, rising_without, each_without, few_without}
use Rattle.reg_account.proofs.RowFacts.{rows_fit_pushed, rows_fit_marked, retired_fits_pushed, retired_fits_marked}

fits_at : (h : Holdings) (kind : AllowanceKind) → HoldingsFit h → amount_of h kind ≤ MOST_HELD
fits_at h General fits = fits.general
fits_at h Aviation fits = fits.aviation

fits_with : (h : Holdings) (kind : AllowanceKind) (n : ℕ) → HoldingsFit h → n ≤ MOST_HELD
    → HoldingsFit (with_amount h kind n)
fits_with h General n fits le = record { general = le; aviation = fits.aviation }
fits_with h Aviation n fits le = record { general = fits.general; aviation = le }

-- an account with other holdings
with_held : (a : AccountValue) (h : Holdings) → IsAccount a → HoldingsFit h → IsAccount (record a { held = h })
with_held a h is fit = record {
  own_number = is.own_number;
  own_holder = is.own_holder;
  correction_fits = is.correction_fits;
  corrections_fit = is.corrections_fit;
  holdings_fit = fit;
  users_fit = is.users_fit;
  trusted_fit = is.trusted_fit;
  rows_fit = is.rows_fit;
  retired_fits = is.retired_fits;
  emissions_fit = is.emissions_fit;
  figures_fit = is.figures_fit;
}

pub retired_is_account : (a : AccountValue) (row : RetirementRow) → IsAccount a → CanRetire a row → FateFits row.fate
    → RowIsInRange row → IsAccount (retired a row)
retired_is_account a row is can fate ranged =
    let most = fits_at a.held row.kind is.holdings_fit in
    record {
      own_number = is.own_number;
      own_holder = is.own_holder;
      correction_fits = is.correction_fits;
      corrections_fit = is.corrections_fit;
      holdings_fit = fits_with a.held row.kind (held_by a row.kind - row.amount) is.holdings_fit (omega (arith, most));
      users_fit = is.users_fit;
      trusted_fit = is.trusted_fit;
      rows_fit = rows_fit_pushed a.rows row is.rows_fit can.later can.space
          (record { some = can.some; most = omega (arith, can.enough, most); period = fate }) ranged;
      retired_fits = retired_fits_pushed a.rows row is.retired_fits can.fits;
      emissions_fit = is.emissions_fit;
      figures_fit = is.figures_fit;
    }

pub unretired_row_is_account : (a : AccountValue) (n : ℕ) (row : RetirementRow) → row_in a.rows n ≡ Some row
    → CanUnretireRow a row → IsAccount a → IsAccount (unretired_row n a row)
unretired_row_is_account a n row found can is = record {
  own_number = is.own_number;
  own_holder = is.own_holder;
  correction_fits = is.correction_fits;
  corrections_fit = is.corrections_fit;
  holdings_fit = fits_with a.held row.kind (held_by a row.kind + row.amount) is.holdings_fit can.fits;
  users_fit = is.users_fit;
  trusted_fit = is.trusted_fit;
  rows_fit = rows_fit_marked a.rows n is.rows_fit;
  retired_fits = retired_fits_marked a.rows n row is.rows_fit.rise found is.retired_fits;
  emissions_fit = is.emissions_fit;
  figures_fit = is.figures_fit;
}

pub unretired_found : (a : AccountValue) (n : ℕ) (row : RetirementRow) → row_in a.rows n ≡ Some row
    → unretired a n ≡ unretired_row n a row
unretired_found a n row found = ap (λ o. option_map_or (unretired_row n a) o a) found

unretired_is_account : (a : AccountValue) (n : ℕ) → IsAccount a → CanUnretire a n → IsAccount (unretired a n)
unretired_is_account a n is can = go (row_in a.rows n) refl can where
  go : (o : Option RetirementRow) → row_in a.rows n ≡ o → MatchOption o ⊥ (CanUnretireRow a)
      → IsAccount (option_map_or (unretired_row n a) o a)
  go None at can' = absurd can'
  go (Some row) at can' = unretired_row_is_account a n row at can' is

pub emissions_fit_put : (emissions : List Emission) (new : Emission) → EmissionsFit emissions → EmissionFits new
    → EmissionIsInRange new → EmissionsFit (with_emission new emissions)
emissions_fit_put emissions new fit own ranged = record {
  rise = rising_put (λ e. e.year) emissions new fit.rise;
  each = each_put (λ e. e.year) EmissionFits emissions new fit.each own;
  in_range = each_put (λ e. e.year) EmissionIsInRange emissions new fit.in_range ranged;
}

pub figures_fit_put : (figures : List Figure) (new : Figure) → FiguresFit figures → FigureFits new.tonnes
    → FigureIsInRange new → FiguresFit (with_figure new figures)
figures_fit_put figures new fit own ranged = record {
  rise = rising_put (λ f. f.year) figures new fit.rise;
  each = each_put (λ f. f.year) (λ f. FigureFits f.tonnes) figures new fit.each own;
  in_range = each_put (λ f. f.year) FigureIsInRange figures new fit.in_range ranged;
}

-- an account with another trusted account list
with_list : (a : AccountValue) (entries : List TrustedEntry) → IsAccount a → TrustedFit entries
    → IsAccount (record a { trusted = entries })
with_list a entries is fit = record {
  own_number = is.own_number;
  own_holder = is.own_holder;
  correction_fits = is.correction_fits;
  corrections_fit = is.corrections_fit;
  holdings_fit = is.holdings_fit;
  users_fit = is.users_fit;
  trusted_fit = fit;
  rows_fit = is.rows_fit;
  retired_fits = is.retired_fits;
  emissions_fit = is.emissions_fit;
  figures_fit = is.figures_fit;
}

pub trusted_fit_put : (entries : List TrustedEntry) (new : TrustedEntry) → TrustedFit entries
    → length entries < MOST_TRUSTED → EntryIsInRange new → TrustedFit (with_entry new entries)
trusted_fit_put entries new fit room ranged = record {
  few = let l = few_put (λ t. t.account) entries new in omega (arith, l, room);
  rise = rising_put (λ t. t.account) entries new fit.rise;
  in_range = each_put (λ t. t.account) EntryIsInRange entries new fit.in_range ranged;
}

pub trusted_fit_without : (entries : List TrustedEntry) (account : ℕ) → TrustedFit entries
    → TrustedFit (without_entry account entries)
trusted_fit_without entries account fit = record {
  few = let l = few_without (λ t. t.account) account entries in omega (arith, l, fit.few);
  rise = rising_without (λ t. t.account) account entries fit.rise;
  in_range = each_without (λ t. t.account) EntryIsInRange account entries fit.in_range;
}

pub changes-keep-limits : ChangesKeepLimits
changes-keep-limits = record {
  credit = λ a kind amount is room.
      with_held a _ is (fits_with a.held kind (held_by a kind + amount) is.holdings_fit room);
  debit = λ a kind amount is. let most = fits_at a.held kind is.holdings_fit in
      with_held a _ is (fits_with a.held kind (held_by a kind - amount) is.holdings_fit (omega (arith, most)));
  retire = λ a row is can fate ranged. retired_is_account a row is can fate ranged;
  unretire = λ a number is can. unretired_is_account a number is can;
  trust = λ a new is room ranged. with_list a _ is (trusted_fit_put a.trusted new is.trusted_fit room ranged);
  untrust = λ a other is. with_list a _ is (trusted_fit_without a.trusted other is.trusted_fit);
  set_status = λ a status is. record {
    own_number = is.own_number;
    own_holder = is.own_holder;
    correction_fits = is.correction_fits;
    corrections_fit = is.corrections_fit;
    holdings_fit = is.holdings_fit;
    users_fit = is.users_fit;
    trusted_fit = is.trusted_fit;
    rows_fit = is.rows_fit;
    retired_fits = is.retired_fits;
    emissions_fit = is.emissions_fit;
    figures_fit = is.figures_fit;
  };
  set_emissions = λ a new is fits ranged. record {
    own_number = is.own_number;
    own_holder = is.own_holder;
    correction_fits = is.correction_fits;
    corrections_fit = is.corrections_fit;
    holdings_fit = is.holdings_fit;
    users_fit = is.users_fit;
    trusted_fit = is.trusted_fit;
    rows_fit = is.rows_fit;
    retired_fits = is.retired_fits;
    emissions_fit = emissions_fit_put a.emissions new is.emissions_fit fits ranged;
    figures_fit = is.figures_fit;
  };
  determine = λ a new is fits ranged. record {
    own_number = is.own_number;
    own_holder = is.own_holder;
    correction_fits = is.correction_fits;
    corrections_fit = is.corrections_fit;
    holdings_fit = is.holdings_fit;
    users_fit = is.users_fit;
    trusted_fit = is.trusted_fit;
    rows_fit = is.rows_fit;
    retired_fits = is.retired_fits;
    emissions_fit = is.emissions_fit;
    figures_fit = figures_fit_put a.figures new is.figures_fit fits ranged;
  };
}

-- what is said of the row that is found
pub of_found : (P : RetirementRow → Type 0) (o : Option RetirementRow) (row : RetirementRow) → o ≡ Some row
    → MatchOption o ⊥ P → P row
of_found P None row found said = absurd said
of_found P (Some r) row found said = subst P (same_Some r row found) said

-- a list that was written back whole
pub written_back : {X : Type 0} (ys zs : List X) (len : ℕ) → length ys ≡ len → take len (ys ++ zs) ≡ ys
written_back ys zs len size = ap (λ n. take n (ys ++ zs)) (sym size) ∙ take-append_seam ys zs
