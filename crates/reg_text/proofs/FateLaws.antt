-- What became of allowances, as the word and the period of a row say it.
use Rattle.std.proofs.Common.{◌≡◌, inl, inr, ℕ, ◌≤◌, ◌<◌, ◌^◌, Bool, true, false, cond, eqb, Option, Some, None, refl}
use Rattle.std.proofs.Common.{sym, ap, arith}
use Rattle.std.specs.Prelude.{IfSome}
use Rattle.std.proofs.lemmas.Bool.{cases_lt, eqb-true, eq-eqb, ne_eqb}
use Rattle.reg_text.proofs.Names.{MOST_PERIODS, IsWithin, Retirement, Surrendered, Deleted, RetirementRow, Fate}
use Rattle.reg_text.proofs.Names.{FateIsOf, Version, One, Two, Scope, by_version}
use Rattle.reg_account.specs.declared.rows.Fate.TheVariants as fate
use Rattle.reg_account.specs.Rows.{retirement_of, FateFits}
use Rattle.reg_text.specs.Grammar.{RetiredSaid, fate_said, period_said, may_name, retired_said, retired_made}
use Rattle.reg_text.specs.Grammar.{retired_parts}

-- what is said of a fate says it again
fate-again : (f : Fate) → fate_said (retirement_of f) (period_said f) ≡ f
fate-again (fate.Surrendered period) = by period (eqb period 1) refl where
  by : (period : ℕ) (first : Bool) → eqb period 1 ≡ first → fate_said Surrendered (cond first None (Some period))
      ≡ fate.Surrendered period
  by period true e = ap (λ (n : ℕ). fate.Surrendered n) (sym (eqb-true period 1 e))
  by period false e = refl
fate-again fate.Deleted = refl

pub row-back : (row : RetirementRow) → retired_made (retired_parts row) ≡ row
row-back row = rw (fate-again row.fate) refl

-- a period after the first, which only a surrender names, is said again
said-again : (what : Retirement) (o : Option ℕ) → may_name what o ≡ true → IfSome o (λ n. 2 ≤ n)
    → (retirement_of (fate_said what o) ≡ what) × (period_said (fate_said what o) ≡ o)
said-again Surrendered None may later = (refl, refl)
said-again Surrendered (Some period) may later = (refl, rw (ne_eqb period 1 (λ e. omega (arith, later))) refl)
said-again Deleted None may later = (refl, refl)
said-again Deleted (Some period) may later = absurd cc

-- the period of a row, as its last field may have it in a scope
abbrev pub PeriodFits : Scope → Option ℕ → Type 0
PeriodFits scope o = IfSome o (λ n. (by_version false true scope.version ≡ true)
    × (IsWithin 2 scope.periods n × (n < 2 ^ 64)))

later-than-one : (scope : Scope) (o : Option ℕ) → PeriodFits scope o → IfSome o (λ n. 2 ≤ n)
later-than-one scope None h = tt
later-than-one scope (Some n) h = h.1.0.low

pub row-again : (scope : Scope) (p : RetiredSaid) → (retired_said scope).Fits p → retired_parts (retired_made p) ≡ p
row-again scope (number, (what, (kind, (amount, (day, (reversed, period))))))
    ((_, (_, (_, (_, (_, (_, fits)))))), may) =
    let s = said-again what period may (later-than-one scope period fits) in rw (s.0, s.1) refl

-- ---- the fate of a row that fits

pub fate-fits : (scope : Scope) (f : Fate) → 1 ≤ scope.periods → scope.periods ≤ MOST_PERIODS
    → PeriodFits scope (period_said f) → FateFits f × FateIsOf scope.periods f
fate-fits scope (fate.Surrendered period) some few h = by period (eqb period 1) refl h where
  by : (period : ℕ) (first : Bool) → eqb period 1 ≡ first → PeriodFits scope (cond first None (Some period))
      → IsWithin 1 MOST_PERIODS period × (period ≤ scope.periods)
  by period true e h = let one = eqb-true period 1 e in
      (record { low = omega (arith, one); high = omega (arith, one) }, omega (arith, one, some))
  by period false e h = (record { low = omega (arith, h.1.0.low); high = omega (arith, h.1.0.high, few) }, h.1.0.high)
fate-fits scope fate.Deleted some few h = (tt, tt)

allowed : (version : Version) (periods n : ℕ) → (version ≡ One → periods ≤ 1) → 2 ≤ n → n ≤ periods
    → by_version false true version ≡ true
allowed One periods n one low high = let few = one refl in absurd (omega (arith, few))
allowed Two periods n one low high = refl

-- what is not the first
two-or-more : (n : ℕ) → eqb n 1 ≡ false → 1 ≤ n → 2 ≤ n
two-or-more n e low = elim (cases_lt 1 n) [
  | inl lt ↦ omega (arith, lt)
  | inr le ↦ let same = eq-eqb n 1 (omega (arith, low, le)) in absurd cc
]

pub fit-fate : (scope : Scope) (f : Fate) → (scope.version ≡ One → scope.periods ≤ 1) → FateFits f
    → FateIsOf scope.periods f → PeriodFits scope (period_said f)
fit-fate scope (fate.Surrendered period) one fits is = by period (eqb period 1) refl fits is where
  by : (period : ℕ) (first : Bool) → eqb period 1 ≡ first → IsWithin 1 MOST_PERIODS period → period ≤ scope.periods
      → PeriodFits scope (cond first None (Some period))
  by period true e fits is = tt
  by period false e fits is =
      let later : 2 ≤ period = two-or-more period e fits.low in (
        allowed scope.version scope.periods period one later is,
        (record { low = later; high = is }, omega (arith, fits.high)),
      )
fit-fate scope fate.Deleted one fits is = tt

pub may-name : (f : Fate) → may_name (retirement_of f) (period_said f) ≡ true
may-name (fate.Surrendered period) = refl
may-name fate.Deleted = refl
