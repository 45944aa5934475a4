-- Accounts stay within their limits, and surrenders and deletions stay recorded under numbers that are taken.
use Rattle.std.proofs.Common.{◌≡◌, ℕ, ◌+◌, ◌<◌, ◌≤◌, Bool, true, false, cond, eqb, ℤ, List, [], ◌∷◌, ◌++◌, map, Option}
use Rattle.std.proofs.Common.{Some, None, Result, Ok, Err, refl, sym, subst, arith}
use Rattle.std.specs.Prelude.{MatchOption, find}
use Rattle.std.specs.Option.{option_map_or}
use Rattle.std.specs.List.{All, AllByRecursion, IsDistinct}
use Rattle.std.proofs.lemmas.Bool.{eqb-true}
use Rattle.std.proofs.lemmas.Option.{same_Some, none-some}
use Rattle.std.proofs.lemmas.List.Elements.{All-from_recursion, recursion_from_All}
use Rattle.reg_base.specs.declared.limits.TheConstants.{MOST_HELD}
use Rattle.reg_base.specs.declared.kinds.AllowanceKind.{AllowanceKind}
use Rattle.reg_base.specs.declared.shares.Share.{Share}
use Rattle.reg_base.specs.declared.movement.Change.{Change}
use Rattle.reg_base.specs.declared.movement.Change.TheVariants.{Debit, Credit, Retire, Unretire, Trust, Untrust}
use Rattle.reg_base.specs.declared.movement.Change.TheVariants.{SetStatus, SetEmissions, Determine}
use Rattle.reg_base.specs.declared.act.Act.{Act}
use Rattle.reg_base.specs.declared.instruction.Instruction.{Instruction}
use Rattle.reg_base.specs.declared.refusals.Refusal.{Refusal}
use Rattle.reg_base.specs.Numbers.{IsAccountNo, IsDayNo, IsRecordNo, IsYearNo}
use Rattle.reg_base.specs.Calendar.{is_due}
use Rattle.reg_base.specs.declared.kinds.Retirement.{Retirement}
use Rattle.reg_base.specs.declared.kinds.Retirement.TheVariants.{Surrendered, Deleted}
use Rattle.reg_base.specs.Rules.{RulesValue, AreRules}
use Rattle.reg_base.specs.Acts.{movement_of, change_of, first, shares, years, years_named, others, others_named}
use Rattle.reg_account.specs.declared.rows.RetirementRow.{RetirementRow}
use Rattle.reg_account.specs.declared.figure.FigureFault.{FigureFault}
use Rattle.reg_account.specs.Rows.{FateFits, row_numbers, row_in, with_mark, AreBelow}
use Rattle.reg_account.specs.Years.{FigureFits}
use Rattle.reg_account.specs.Account.{AccountValue, IsAccount, held_by, credited, unretired_row, CanTrust}
use Rattle.reg_account.specs.Figure.{figure_of}
use Rattle.reg_account.specs.Laws.{ChangesKeepLimits}
use Rattle.reg_rules.specs.State.{State, Setting, account}
use Rattle.reg_rules.specs.Checks.{refusal}
use Rattle.reg_rules.specs.Trust.{effective_day}
use Rattle.reg_rules.specs.Effect.{fate_of, listed_from, assessed, made_by, first_after, share_of, given, after_act}
use Rattle.reg_rules.specs.Effect.{with_changes, changed_by, CanMake, CanChange, IsBehind}
use Rattle.reg_rules.specs.Step.{step_by}
use Rattle.reg_rules.specs.Laws.{IsReady, StaysReadyInStep}
use Rattle.reg_rules.proofs.lemmas.Accounts.{found-by_number}
use Rattle.reg_rules.proofs.Applied.{can-change}
use Rattle.reg_rules.proofs.Effects.{numbers-effect}
use Rattle.reg_rules.proofs.Figures.{figure-fits}

-- the numbers that a change writes down are in their ranges
record InRange (made : Change) : Type 0 where
  years_fit : AllByRecursion IsYearNo (years_named made)
  others_fit : AllByRecursion IsAccountNo (others_named made)

-- a day that is found in a calendar is a day
day-found : (days : List ℕ) (test : ℕ → Bool) (day : ℕ) → All IsDayNo days → find test days ≡ Some day → IsDayNo day
day-found days test day all found = go days (recursion_from_All IsDayNo days all) found where
  go : (xs : List ℕ) → AllByRecursion IsDayNo xs → find test xs ≡ Some day → IsDayNo day
  go [] fit at = absurd (none-some day at)
  go (x ∷ xs) fit at = by (test x) at (go xs fit.1) where
    by : (b : Bool) → cond b (Some x) (find test xs) ≡ Some day → (find test xs ≡ Some day → IsDayNo day) → IsDayNo day
    by true here more = subst IsDayNo (same_Some x day here) fit.0
    by false here more = more here

-- each change keeps an account within its limits
module _ (laws : ChangesKeepLimits) where
  fit-assessed : (v : AccountValue) (year : ℕ) (r : Result ℤ FigureFault) → IsYearNo year
      → ((figure : ℤ) → r ≡ Ok figure → FigureFits figure) → IsAccount v → IsAccount (assessed v year r)
  fit-assessed v year (Ok figure) in_range fits is =
      laws.determine v (record { year = year; tonnes = figure }) is (fits figure refl) in_range
  fit-assessed v year (Err fault) in_range fits is = is

  fit-listed : (v : AccountValue) (other : ℕ) (o : Option ℕ) → ((day : ℕ) → o ≡ Some day → IsDayNo day)
      → IsAccountNo other → CanTrust v → IsAccount v → IsAccount (listed_from v other o)
  fit-listed v other (Some day) days in_range can is = laws.trust v (record { account = other; effective = day }) is can
      (record { number = in_range; day = days day refl })
  fit-listed v other None days in_range can is = is

  -- the current period is one of the periods, of which there are at most eight
  fate-fits : (rules : RulesValue) (way : Retirement) → AreRules rules → FateFits (fate_of rules way)
  fate-fits rules Surrendered are = let few = are.fit.periods_fit.few in let low = are.fit.current_fits.low in
      let high = are.fit.current_fits.high in record { low = omega (arith, low); high = omega (arith, few, high) }
  fate-fits rules Deleted are = tt

  first-fits : (c : Setting) (n : ℕ) (made : Change) (v : AccountValue) → AreRules c.rules → IsDayNo c.day
      → IsRecordNo n → InRange made → CanMake c n made v → IsAccount v → IsAccount (made_by c n made v)
  first-fits c n (Debit kind amount) v rules day numbered in_range can is = laws.debit v kind amount is
  first-fits c n (Credit kind amount) v rules day numbered in_range can is = laws.credit v kind amount is can
  first-fits c n (Retire way kind amount) v rules day numbered in_range can is =
      laws.retire v _ is can (fate-fits c.rules way rules) (record { number = numbered; day = day })
  first-fits c n (Unretire number) v rules day numbered in_range can is = laws.unretire v number is can
  first-fits c n (Trust other) v rules day numbered in_range can is =
      fit-listed v other (effective_day c)
      (λ effective due. day-found c.rules.calendar (is_due c.rules.calendar c.day c.rules.list_lag) effective
      rules.working_days.each_day due) in_range.others_fit.0 can is
  first-fits c n (Untrust other) v rules day numbered in_range can is = laws.untrust v other is
  first-fits c n (SetStatus status) v rules day numbered in_range can is = laws.set_status v status is
  first-fits c n (SetEmissions year tonnes) v rules day numbered in_range can is =
      laws.set_emissions v (record { year = year; tonnes = tonnes }) is can in_range.years_fit.0
  first-fits c n (Determine year) v rules day numbered in_range can is =
      fit-assessed v year (figure_of c.rules v year) in_range.years_fit.0
      (figure-fits c.rules v year rules in_range.years_fit.0 is) is

  fit-given : (v : AccountValue) (kind : AllowanceKind) (o : Option Share)
      → MatchOption o (Unit {0}) (λ share. held_by v kind + share.amount ≤ MOST_HELD)
      → IsAccount v → IsAccount (option_map_or (λ share. credited v kind share.amount) o v)
  fit-given v kind None room is = is
  fit-given v kind (Some share) room is = laws.credit v kind share.amount is room

  fit-after_act : (c : Setting) (n : ℕ) (act : Act) (v : AccountValue) → AreRules c.rules → IsDayNo c.day → IsRecordNo n
      → InRange (change_of act) → CanChange c n act v → IsAccount v → IsAccount (after_act c n act v)
  fit-after_act c n act v rules day numbered in_range can is = go (eqb v.number (first act)) refl where
    go : (b : Bool) → eqb v.number (first act) ≡ b
        → IsAccount (cond b (first_after c n act v) (given (movement_of act).kind (shares act) v))
    go true same = first-fits c n (change_of act) v rules day numbered in_range
        (can.as_first (eqb-true v.number (first act) same)) is
    go false other = fit-given v (movement_of act).kind (share_of (shares act) v.number) can.space is

  -- a state in which nothing refuses stays within its limits
  limits-after : (c : Setting) (s : State) (n : ℕ) (i : Instruction) → AreRules c.rules → IsDayNo c.day → IsRecordNo n
      → InRange (change_of i.act) → refusal c s i ≡ None → (ys : State)
      → AllByRecursion (λ v. account s v.number ≡ Some v) ys → AllByRecursion (IsBehind n) ys
      → AllByRecursion IsAccount ys → AllByRecursion IsAccount (map (changed_by c n i.act) ys)
  limits-after c s n i rules day numbered in_range none [] found behind all = tt
  limits-after c s n i rules day numbered in_range none (y ∷ ys) found behind all = (
    fit-changed (after_act c n i.act y)
        (fit-after_act c n i.act y rules day numbered in_range (can-change c s n i y none found.0 behind.0) all.0),
    limits-after c s n i rules day numbered in_range none ys found.1 behind.1 all.1,
  ) where
    -- what acts leave of an account has no limits that change
    fit-changed : (w : AccountValue) → IsAccount w → IsAccount (with_changes y w)
    fit-changed w is = record {
      own_number = all.0.own_number;
      own_holder = all.0.own_holder;
      correction_fits = all.0.correction_fits;
      corrections_fit = all.0.corrections_fit;
      holdings_fit = is.holdings_fit;
      users_fit = all.0.users_fit;
      trusted_fit = is.trusted_fit;
      rows_fit = is.rows_fit;
      retired_fits = is.retired_fits;
      emissions_fit = is.emissions_fit;
      figures_fit = is.figures_fit;
    }

-- numbers below a record number are below the next one
below-next : (n : ℕ) (rows : List RetirementRow) → AreBelow n (row_numbers rows) → AreBelow (n + 1) (row_numbers rows)
below-next n [] all = tt
below-next n (x ∷ xs) all = (let h = all.0 in omega (arith, h), below-next n xs all.1)

below-added : (n : ℕ) (rows : List RetirementRow) (row : RetirementRow) → row.number ≡ n → AreBelow n (row_numbers rows)
    → AreBelow (n + 1) (row_numbers (rows ++ row ∷ []))
below-added n [] row same all = (omega (arith, same), tt)
below-added n (x ∷ xs) row same all = (let h = all.0 in omega (arith, h), below-added n xs row same all.1)

below-marked : (n number : ℕ) (rows : List RetirementRow) → AreBelow n (row_numbers rows)
    → AreBelow (n + 1) (row_numbers (with_mark number rows))
below-marked n number [] all = tt
below-marked n number (x ∷ xs) all = (go (eqb x.number number), below-marked n number xs all.1) where
  go : (b : Bool) → (cond b (record x { reversed = true }) x).number < n + 1
  go true = let h = all.0 in omega (arith, h)
  go false = let h = all.0 in omega (arith, h)

behind-unretired : (n number : ℕ) (v : AccountValue) (o : Option RetirementRow) → IsBehind n v
    → IsBehind (n + 1) (option_map_or (unretired_row number v) o v)
behind-unretired n number v None behind = below-next n v.rows behind
behind-unretired n number v (Some row) behind = below-marked n number v.rows behind

behind-assessed : (n : ℕ) (v : AccountValue) (year : ℕ) (r : Result ℤ FigureFault) → IsBehind n v
    → IsBehind (n + 1) (assessed v year r)
behind-assessed n v year (Ok figure) behind = below-next n v.rows behind
behind-assessed n v year (Err fault) behind = below-next n v.rows behind

behind-listed : (n : ℕ) (v : AccountValue) (other : ℕ) (o : Option ℕ) → IsBehind n v
    → IsBehind (n + 1) (listed_from v other o)
behind-listed n v other (Some day) behind = below-next n v.rows behind
behind-listed n v other None behind = below-next n v.rows behind

behind-first : (c : Setting) (n : ℕ) (made : Change) (v : AccountValue) → IsBehind n v
    → IsBehind (n + 1) (made_by c n made v)
behind-first c n (Debit kind amount) v behind = below-next n v.rows behind
behind-first c n (Credit kind amount) v behind = below-next n v.rows behind
behind-first c n (Retire way kind amount) v behind = below-added n v.rows _ refl behind
behind-first c n (Unretire number) v behind = behind-unretired n number v (row_in v.rows number) behind
behind-first c n (Trust other) v behind = behind-listed n v other (effective_day c) behind
behind-first c n (Untrust other) v behind = below-next n v.rows behind
behind-first c n (SetStatus status) v behind = below-next n v.rows behind
behind-first c n (SetEmissions year tonnes) v behind = below-next n v.rows behind
behind-first c n (Determine year) v behind = behind-assessed n v year (figure_of c.rules v year) behind

behind-given : (n : ℕ) (v : AccountValue) (kind : AllowanceKind) (o : Option Share) → IsBehind n v
    → IsBehind (n + 1) (option_map_or (λ share. credited v kind share.amount) o v)
behind-given n v kind None behind = below-next n v.rows behind
behind-given n v kind (Some share) behind = below-next n v.rows behind

behind-changed : (c : Setting) (n : ℕ) (act : Act) (v : AccountValue) → IsBehind n v
    → IsBehind (n + 1) (changed_by c n act v)
behind-changed c n act v behind = go (eqb v.number (first act)) where
  go : (b : Bool) → IsBehind (n + 1)
      (with_changes v (cond b (first_after c n act v) (given (movement_of act).kind (shares act) v)))
  go true = behind-first c n (change_of act) v behind
  go false = behind-given n v (movement_of act).kind (share_of (shares act) v.number) behind

behind-after : (c : Setting) (n : ℕ) (act : Act) (ys : State) → AllByRecursion (IsBehind n) ys
    → AllByRecursion (IsBehind (n + 1)) (map (changed_by c n act) ys)
behind-after c n act [] all = tt
behind-after c n act (y ∷ ys) all = (behind-changed c n act y all.0, behind-after c n act ys all.1)

behind-next : (n : ℕ) (ys : State) → AllByRecursion (IsBehind n) ys → AllByRecursion (IsBehind (n + 1)) ys
behind-next n [] all = tt
behind-next n (y ∷ ys) all = (below-next n y.rows all.0, behind-next n ys all.1)

pub stays-ready : ChangesKeepLimits → StaysReadyInStep
stays-ready laws c s n i rules day numbered fit ready = go (refusal c s i) refl where
  accounts : AllByRecursion IsAccount s
  accounts = recursion_from_All IsAccount s ready.fit

  late : AllByRecursion (IsBehind n) s
  late = recursion_from_All (IsBehind n) s ready.behind

  go : (r : Option Refusal) → refusal c s i ≡ r → IsReady (n + 1) (step_by c s n i r).0
  go None none = record {
    once = subst (IsDistinct eqb) (sym (numbers-effect c s n i)) ready.once;
    fit = All-from_recursion IsAccount (map (changed_by c n i.act) s)
        (limits-after laws c s n i rules day numbered
        (record {
          years_fit = recursion_from_All IsYearNo (years i.act) fit.each_year;
          others_fit = recursion_from_All IsAccountNo (others i.act) fit.each_other;
        }) none s
        (found-by_number s ready.once) late accounts);
    behind = All-from_recursion (IsBehind (n + 1)) (map (changed_by c n i.act) s) (behind-after c n i.act s late);
  }
  go (Some q) refused = record {
    once = ready.once;
    fit = ready.fit;
    behind = All-from_recursion (IsBehind (n + 1)) s (behind-next n s late);
  }
