-- The last figure of a rising list that passes a test is that of the latest year.
use Rattle.std.proofs.Common.{◌≡◌, ℕ, zero, suc, ◌≤◌, Bool, true, false, cond, List, [], ◌∷◌, refl, ap, sym, ◌∙◌, arith}
use Rattle.std.proofs.Common.{Option, Some, None}
use Rattle.std.specs.Prelude.{find, reverse, Contains, IsTrue, MatchOption}
use Rattle.std.specs.Option.{option_or}
use Rattle.std.proofs.lemmas.List.{reverse-append}
use Rattle.std.proofs.lemmas.List.Folds.{find-append}
use Rattle.reg_base.specs.Rules.{is_year_of}
use Rattle.reg_base.proofs.lemmas.RisesFrom.{RisesFrom, rises_from}
use Rattle.reg_account.specs.declared.years.Figure.{Figure}
use Rattle.reg_account.specs.Years.{figure_years}
use Rattle.reg_rules.specs.Checks.{LatestIsOfTheLatestYear, IsLatestDetermined, latest_determined}

module _ (test : Figure → Bool) where
  -- none of these figures passes
  abbrev pub NonePass : List Figure → Type 0
  NonePass fs = (f : Figure) → Contains fs f → ¬ (IsTrue (test f))

  -- the figure passes, and no other that does is of a later year
  pub record IsLast (fs : List Figure) (latest : Figure) : Type 0 where
    pub determined : Contains fs latest
    pub passes : IsTrue (test latest)
    pub last : (f : Figure) → Contains fs f → IsTrue (test f) → f.year ≤ latest.year

  -- a search from the end looks at the first figure last
  find-reverse : (x : Figure) (xs : List Figure)
      → find test (reverse (x ∷ xs)) ≡ option_or (find test (reverse xs)) (cond (test x) (Some x) None)
  find-reverse x xs = ap (λ fs. find test fs) (reverse-append (x ∷ []) xs) ∙ find-append test (reverse xs) (x ∷ [])

  -- what holds of the first figure and of those behind it holds of all
  split : (x : Figure) (xs : List Figure) (P : Figure → Type 0) → P x → ((f : Figure) → Contains xs f → P f)
      → (f : Figure) → Contains (x ∷ xs) f → P f
  split x xs P first behind f (zero, in', is) = rw (sym is) first
  split x xs P first behind f (suc k, in', is) = behind f (k, omega (arith, in'), is)

  -- all figures of a list are of this year or later
  none_before : (low : ℕ) (fs : List Figure) → RisesFrom low (figure_years fs) → (f : Figure) → Contains fs f
      → low ≤ f.year
  none_before low [] from f within = absurd (omega (arith, within.1))
  none_before low (x ∷ xs) from f within =
      split x xs (λ g. low ≤ g.year) from.0
      (λ g there. omega (arith, from.0, none_before (suc x.year) xs from.1 g there)) f within

  last-cons : (x : Figure) (xs : List Figure) → RisesFrom (suc x.year) (figure_years xs) → (o : Option Figure)
      → MatchOption o (NonePass xs) (IsLast xs)
      → MatchOption (option_or o (cond (test x) (Some x) None)) (NonePass (x ∷ xs)) (IsLast (x ∷ xs))
  last-cons x xs from None none = go (test x) refl where
    go : (b : Bool) → test x ≡ b → MatchOption (cond b (Some x) None) (NonePass (x ∷ xs)) (IsLast (x ∷ xs))
    go true is = record {
      determined = (0, omega arith, refl);
      passes = is;
      last = split x xs (λ g. IsTrue (test g) → g.year ≤ x.year) (λ passes. omega arith)
          (λ g there passes. absurd (none g there passes));
    }
    go false is = split x xs (λ g. ¬ (IsTrue (test g))) (λ passes. absurd (cc)) none
  last-cons x xs from (Some latest) some = record {
    determined = (suc some.determined.0, omega (arith, some.determined.1), some.determined.2);
    passes = some.passes;
    last = split x xs (λ g. IsTrue (test g) → g.year ≤ latest.year)
        (λ passes. omega (arith, none_before (suc x.year) xs from latest some.determined)) some.last;
  }

  last_passing : (low : ℕ) (fs : List Figure) → RisesFrom low (figure_years fs)
      → MatchOption (find test (reverse fs)) (NonePass fs) (IsLast fs)
  last_passing low [] from = λ f within passes. absurd (omega (arith, within.1))
  last_passing low (x ∷ xs) from =
      rw (find-reverse x xs) (last-cons x xs from.1 (find test (reverse xs)) (last_passing (suc x.year) xs from.1))

pub latest_year : LatestIsOfTheLatestYear
latest_year rules period v rising =
    go (latest_determined rules period v)
    (last_passing (λ f. is_year_of rules period f.year) 0 v.figures
    (rises_from 0 (figure_years v.figures) rising (λ some. omega arith))) where
      go : (o : Option Figure) → MatchOption o (NonePass (λ f. is_year_of rules period f.year) v.figures)
          (IsLast (λ f. is_year_of rules period f.year) v.figures)
          → MatchOption o ((f : Figure) → Contains v.figures f → ¬ (IsTrue (is_year_of rules period f.year)))
          (IsLatestDetermined rules period v)
      go None none = none
      go (Some latest) some = record { determined = some.determined; of_period = some.passes; last = some.last }
