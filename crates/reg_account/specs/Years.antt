-- What an account has for single years: its emissions and its determined figures, by rising year.
use Rattle.std.specs.Prelude.{ℕ, ◌≤◌, ℤ, pos, ◌≤ℤ◌, ◌-ℤ◌, Bool, not, ◌==◌, ◌||◌, nat_lt, int_lt, List, ◌∷◌, ◌++◌, map}
use Rattle.std.specs.Prelude.{find, filter, Option}
use Rattle.std.specs.Option.{option_map}
use Rattle.std.specs.List.{AllByRecursion, list_any}
use Rattle.reg_base.specs.declared.limits.TheConstants.{MOST_EMISSIONS, MOST_FIGURE}
use Rattle.reg_base.specs.Numbers.{IsYearNo}
use Rattle.reg_base.specs.Rising.{IsRising, is_rising_from}
use Rattle.reg_account.specs.declared.years.Emission.{Emission}
use Rattle.reg_account.specs.declared.years.Figure.{Figure}

abbrev pub emission_years : List Emission → List ℕ
emission_years emissions = map (λ e. e.year) emissions

abbrev pub figure_years : List Figure → List ℕ
figure_years figures = map (λ f. f.year) figures

-- the emissions of a year, in tonnes
abbrev pub emissions_in : List Emission → ℕ → Option ℕ
emissions_in emissions year = option_map (λ e. e.tonnes) (find (λ e. e.year == year) emissions)

-- the determined figure of a year, in tonnes
abbrev pub figure_in : List Figure → ℕ → Option ℤ
figure_in figures year = option_map (λ f. f.tonnes) (find (λ f. f.year == year) figures)

-- the emissions, with these in place of earlier ones of the same year
abbrev pub with_emission : Emission → List Emission → List Emission
with_emission new emissions =
    filter (λ e. nat_lt e.year new.year) emissions ++ new ∷ filter (λ e. nat_lt new.year e.year) emissions

-- the figures, with this one in place of an earlier one of the same year
abbrev pub with_figure : Figure → List Figure → List Figure
with_figure new figures =
    filter (λ f. nat_lt f.year new.year) figures ++ new ∷ filter (λ f. nat_lt new.year f.year) figures

-- the emissions of a year are within their limit
abbrev pub EmissionFits : Emission → Type 0
EmissionFits e = e.tonnes ≤ MOST_EMISSIONS

-- a figure is within its limits
pub record FigureFits (tonnes : ℤ) : Type 0 where
  pub low : (pos 0 -ℤ MOST_FIGURE) ≤ℤ tonnes
  pub high : tonnes ≤ℤ MOST_FIGURE

-- the year of emissions is in its range, as each year is
abbrev pub EmissionIsInRange : Emission → Type 0
EmissionIsInRange e = IsYearNo e.year

-- and so is that of a figure
abbrev pub FigureIsInRange : Figure → Type 0
FigureIsInRange f = IsYearNo f.year

-- emissions as an account may have them
pub record EmissionsFit (emissions : List Emission) : Type 0 where
  pub rise : IsRising (emission_years emissions)
  pub each : AllByRecursion EmissionFits emissions
  pub in_range : AllByRecursion EmissionIsInRange emissions

-- determined figures as an account may have them
pub record FiguresFit (figures : List Figure) : Type 0 where
  pub rise : IsRising (figure_years figures)
  pub each : AllByRecursion (λ f. FigureFits f.tonnes) figures
  pub in_range : AllByRecursion FigureIsInRange figures

-- emissions are too large
abbrev pub is_emission_unfit : Emission → Bool
is_emission_unfit e = nat_lt MOST_EMISSIONS e.tonnes

-- a figure is too large or too small
abbrev pub is_figure_unfit : Figure → Bool
is_figure_unfit f = int_lt f.tonnes (pos 0 -ℤ MOST_FIGURE) || int_lt MOST_FIGURE f.tonnes

-- the years of emissions don't rise, or emissions are too large
abbrev pub are_emissions_unfit : List Emission → Bool
are_emissions_unfit emissions =
    not (is_rising_from 0 (emission_years emissions)) || list_any is_emission_unfit emissions

-- the years of figures don't rise, or a figure is too large or too small
abbrev pub are_figures_unfit : List Figure → Bool
are_figures_unfit figures = not (is_rising_from 0 (figure_years figures)) || list_any is_figure_unfit figures
