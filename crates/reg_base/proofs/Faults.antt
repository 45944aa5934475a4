-- The first fault of a list of numbers, and of rules, is the first position at which the numbers do not rise.
use Rattle.std.proofs.Common.{◌≡◌, ℕ, zero, suc, ◌+◌, ◌-◌, ◌<◌, ◌≤◌, Bool, true, false, cond, ◌&&◌, ◌||◌, leb, ltb}
use Rattle.std.proofs.Common.{List, [], ◌∷◌, ◌++◌, map, length, Option, Some, None, refl, sym, ap, ◌∙◌, inl, inr, arith}
use Rattle.std.specs.Prelude.{find, slice_index, is_some}
use Rattle.std.specs.Option.{option_map, option_or}
use Rattle.std.specs.Bool.{then_some}
use Rattle.std.specs.List.{AllByRecursion, list_any}
use Rattle.std.proofs.lemmas.Bool.{le-leb, lt-leb, le-ltb, lt-ltb, ltb-false, or_parts, and_left, and_right, and_from}
use Rattle.std.proofs.lemmas.Bool.{cases_lt}
use Rattle.std.proofs.lemmas.List.Folds.{find-append}
use Rattle.reg_base.specs.declared.limits.TheConstants.{MOST_ADMINISTRATORS, MOST_LAG, MOST_PERIODS}
use Rattle.reg_base.specs.declared.rules.RulesFault.{RulesFault}
use Rattle.reg_base.specs.declared.rules.RulesFault.TheVariants.{TooManyAdmins, AdminsNotRising, LagTooLong}
use Rattle.reg_base.specs.declared.rules.RulesFault.TheVariants.{PeriodCount, PeriodReversed, PeriodsNotRising}
use Rattle.reg_base.specs.declared.rules.RulesFault.TheVariants.{CurrentOutside}
use Rattle.reg_base.specs.Rising.{AreAbove, IsRising, FirstNotAbove, FirstNotRising, count_up, positions_from_one}
use Rattle.reg_base.specs.Rising.{is_not_above, is_fall}
use Rattle.reg_base.specs.Periods.{ArePeriods, IsPeriodOf, PeriodsRise, first_years, last_years, is_period_reversed}
use Rattle.reg_base.specs.Rules.{RulesValue, rules_have, period_faults, first_period_fault, first_rules_fault}
use Rattle.reg_base.specs.Rules.{has_long_lag, is_period_count_wrong, is_current_outside, FitRulesHaveNoFault}

find-map : {X Y : Type 0} (test : Y → Bool) (f : X → Y) (xs : List X)
    → find test (map f xs) ≡ option_map f (find (λ x. test (f x)) xs)
find-map test f [] = refl
find-map test f (x ∷ xs) = go (test (f x)) (find-map test f xs) where
  go : (b : Bool) → find test (map f xs) ≡ option_map f (find (λ y. test (f y)) xs)
      → cond b (Some (f x)) (find test (map f xs)) ≡ option_map f (cond b (Some x) (find (λ y. test (f y)) xs))
  go true more = refl
  go false more = more

-- counting up, where no number passes, and where this one is the first that does
none-counted : (test : ℕ → Bool) (first more : ℕ) → ((k : ℕ) → first ≤ k → k < first + more → test k ≡ false)
    → find test (count_up first more) ≡ None
none-counted test first zero fails = refl
none-counted test first (suc more) fails =
    ap (λ b. cond b (Some first) (find test (count_up (first + 1) more))) (fails first (omega arith) (omega arith))
    ∙ none-counted test (first + 1) more (λ k le lt. fails k (omega arith) (omega arith))

first-counted : (test : ℕ → Bool) (first more position : ℕ) → first ≤ position → position < first + more
    → test position ≡ true
    → ((k : ℕ) → first ≤ k → k < position → test k ≡ false) → find test (count_up first more) ≡ Some position
first-counted test first zero position le lt passes fails = absurd (omega arith)
first-counted test first (suc more) position le lt passes fails = elim (cases_lt first position) [
  | inl before ↦
      ap (λ b. cond b (Some first) (find test (count_up (first + 1) more))) (fails first (omega arith) before)
      ∙ first-counted test (first + 1) more position (omega arith) (omega arith) passes
      (λ k le' lt'. fails k (omega arith) lt')
  | inr at ↦
      let same : first ≡ position = omega arith in
      ap (λ b. cond b (Some first) (find test (count_up (first + 1) more))) (ap test same ∙ passes)
      ∙ ap (λ n. Some n) same
]

-- a position where the numbers rise is no fall
rises-here : (lower xs : List ℕ) (position : ℕ)
    → (2 ≤ position → position ≤ length xs → slice_index lower (position - 2) < slice_index xs (position - 1))
    → is_not_above lower xs position ≡ false
rises-here lower xs position rises = elim (cases_lt 1 position) [
  | inr early ↦ and_left (ltb 1 position)
      (leb position (length xs) && leb (slice_index xs (position - 1)) (slice_index lower (position - 2)))
      (le-ltb 1 position early)
  | inl late ↦ and_right (ltb 1 position)
      (leb position (length xs) && leb (slice_index xs (position - 1)) (slice_index lower (position - 2)))
      (within-or-past late)
] where
  within-or-past : 1 < position
      → (leb position (length xs) && leb (slice_index xs (position - 1)) (slice_index lower (position - 2))) ≡ false
  within-or-past late = elim (cases_lt (length xs) position) [
    | inl past ↦ and_left (leb position (length xs))
        (leb (slice_index xs (position - 1)) (slice_index lower (position - 2))) (lt-leb position (length xs) past)
    | inr within ↦ and_right (leb position (length xs))
        (leb (slice_index xs (position - 1)) (slice_index lower (position - 2)))
        (lt-leb (slice_index xs (position - 1)) (slice_index lower (position - 2)) (rises (omega arith) within))
  ]

falls-here : (lower xs : List ℕ) (position : ℕ) → FirstNotAbove lower xs position
    → is_not_above lower xs position ≡ true
falls-here lower xs position fall =
    and_from _ _ (lt-ltb 1 position (omega (arith, fall.after_the_first)))
    (and_from _ _ (le-leb position (length xs) fall.within)
    (le-leb (slice_index xs (position - 1)) (slice_index lower (position - 2)) fall.not_above))

pub above-no_fall : (lower xs : List ℕ) → AreAbove lower xs → find (is_not_above lower xs) (positions_from_one xs)
    ≡ None
above-no_fall lower xs above =
    none-counted (is_not_above lower xs) 1 (length xs)
    (λ k le lt. rises-here lower xs k (λ two within. step k two within)) where
      step : (k : ℕ) → 2 ≤ k → k ≤ length xs → slice_index lower (k - 2) < slice_index xs (k - 1)
      step k two within =
          let at : (k - 2) + 1 ≡ k - 1 = omega arith in
          let up : slice_index lower (k - 2) < slice_index xs ((k - 2) + 1) = above (k - 2) (omega arith) in
          omega (arith, ap (λ n. slice_index xs n) at)

pub first-not_above : (lower xs : List ℕ) (position : ℕ) → FirstNotAbove lower xs position
    → find (is_not_above lower xs) (positions_from_one xs) ≡ Some position
first-not_above lower xs position fall =
    first-counted (is_not_above lower xs) 1 (length xs) position (omega (arith, fall.after_the_first))
    (omega (arith, fall.within)) (falls-here lower xs position fall)
    (λ k le lt. rises-here lower xs k (λ two within. step k two lt)) where
      step : (k : ℕ) → 2 ≤ k → k < position → slice_index lower (k - 2) < slice_index xs (k - 1)
      step k two lt =
          let at : (k - 2) + 1 ≡ k - 1 = omega arith in
          let up : slice_index lower (k - 2) < slice_index xs ((k - 2) + 1) =
          fall.rising_before (k - 2) (omega arith) in
          omega (arith, ap (λ n. slice_index xs n) at)

pub rising-no_fall : (xs : List ℕ) → IsRising xs → find (is_fall xs) (positions_from_one xs) ≡ None
rising-no_fall xs rising = above-no_fall xs xs rising

pub first-fall : (xs : List ℕ) (position : ℕ) → FirstNotRising xs position → find (is_fall xs) (positions_from_one xs)
    ≡ Some position
first-fall xs position fall = first-not_above xs xs position fall

-- the faults of rules in order, as far as those before them are ruled out
module _ (r : RulesValue) (few : length r.admins ≤ MOST_ADMINISTRATORS) where
  after-few : first_rules_fault r
      ≡ find (rules_have r) (map (λ position. AdminsNotRising position) (positions_from_one r.admins)
      ++ LagTooLong ∷ period_faults r)
  after-few = ap (λ b. cond b (Some TooManyAdmins)
      (find (rules_have r) (map (λ position. AdminsNotRising position) (positions_from_one r.admins)
      ++ LagTooLong ∷ period_faults r))) (le-ltb MOST_ADMINISTRATORS (length r.admins) few)

  by-positions : (o : Option ℕ) → find (is_fall r.admins) (positions_from_one r.admins) ≡ o
      → first_rules_fault r ≡ option_or (option_map (λ position. AdminsNotRising position) o)
      (find (rules_have r) (LagTooLong ∷ period_faults r))
  by-positions o at =
      after-few
      ∙ find-append (rules_have r) (map (λ position. AdminsNotRising position) (positions_from_one r.admins))
      (LagTooLong ∷ period_faults r)
      ∙ ap (λ p. option_or p (find (rules_have r) (LagTooLong ∷ period_faults r)))
      (find-map (rules_have r) (λ position. AdminsNotRising position) (positions_from_one r.admins)
      ∙ ap (option_map (λ position. AdminsNotRising position)) at)

  pub admins-fault : (position : ℕ) → FirstNotRising r.admins position
      → first_rules_fault r ≡ Some (AdminsNotRising position)
  admins-fault position fall = by-positions (Some position) (first-fall r.admins position fall)

  pub after-admins : IsRising r.admins → first_rules_fault r ≡ find (rules_have r) (LagTooLong ∷ period_faults r)
  after-admins rising = by-positions None (rising-no_fall r.admins rising)

or-false : (a b : Bool) → a ≡ false → b ≡ false → (a || b) ≡ false
or-false a b p q = ap (λ c. c || b) p ∙ q

-- a lag that is too long, once the administrators are well
pub long-fault : (r : RulesValue) → length r.admins ≤ MOST_ADMINISTRATORS → IsRising r.admins → has_long_lag r ≡ true
    → first_rules_fault r ≡ Some LagTooLong
long-fault r few rising long =
    after-admins r few rising ∙ ap (λ b. cond b (Some LagTooLong) (first_period_fault r)) long

-- and the first fault of the periods, once the lags are
pub after-lags : (r : RulesValue) → length r.admins ≤ MOST_ADMINISTRATORS → IsRising r.admins → has_long_lag r ≡ false
    → first_rules_fault r ≡ first_period_fault r
after-lags r few rising short =
    after-admins r few rising ∙ ap (λ b. cond b (Some LagTooLong) (first_period_fault r)) short

-- ---- the periods

-- the faults that are left once the number of the periods is well, and once none of them is reversed
module _ (r : RulesValue) (count : is_period_count_wrong r ≡ false) where
  abbrev not_rising : List RulesFault
  not_rising = map (λ position. PeriodsNotRising position) (positions_from_one (first_years r.periods))

  by-periods : (o : Option ℕ) → list_any is_period_reversed r.periods ≡ false
      → find (is_not_above (last_years r.periods) (first_years r.periods)) (positions_from_one (first_years r.periods))
      ≡ o
      → first_period_fault r ≡ option_or (option_map (λ position. PeriodsNotRising position) o)
      (cond (is_current_outside r) (Some CurrentOutside) None)
  by-periods o standing at =
      ap (λ b. cond b (Some PeriodCount)
      (cond (list_any is_period_reversed r.periods) (Some PeriodReversed)
      (find (rules_have r) (not_rising ++ CurrentOutside ∷ [])))) count
      ∙ ap (λ b. cond b (Some PeriodReversed) (find (rules_have r) (not_rising ++ CurrentOutside ∷ []))) standing
      ∙ find-append (rules_have r) not_rising (CurrentOutside ∷ [])
      ∙ ap (λ p. option_or p (cond (is_current_outside r) (Some CurrentOutside) None))
      (find-map (rules_have r) (λ position. PeriodsNotRising position) (positions_from_one (first_years r.periods))
      ∙ ap (option_map (λ position. PeriodsNotRising position)) at)

  pub falling-fault : (position : ℕ) → list_any is_period_reversed r.periods ≡ false
      → FirstNotAbove (last_years r.periods) (first_years r.periods) position
      → first_period_fault r ≡ Some (PeriodsNotRising position)
  falling-fault position standing fall =
      by-periods (Some position) standing (first-not_above (last_years r.periods) (first_years r.periods) position fall)

  pub current-fault : list_any is_period_reversed r.periods ≡ false → PeriodsRise r.periods
      → first_period_fault r ≡ cond (is_current_outside r) (Some CurrentOutside) None
  current-fault standing rise =
      by-periods None standing (above-no_fall (last_years r.periods) (first_years r.periods) rise)

pub then-outside : (b : Bool) → then_some b CurrentOutside ≡ cond b (Some CurrentOutside) None
then-outside true = refl
then-outside false = refl

-- no period is reversed exactly if each ends no earlier than it begins
pub none-reversed : (periods : List (ℕ × ℕ)) → AllByRecursion (λ p. p.0 ≤ p.1) periods
    → list_any is_period_reversed periods ≡ false
none-reversed [] all = refl
none-reversed (p ∷ ps) all =
    or-false (ltb p.1 p.0) (list_any is_period_reversed ps) (le-ltb p.1 p.0 all.0) (none-reversed ps all.1)

pub each-stands : (periods : List (ℕ × ℕ)) → list_any is_period_reversed periods ≡ false
    → AllByRecursion (λ p. p.0 ≤ p.1) periods
each-stands [] none = tt
each-stands (p ∷ ps) none = go (ltb p.1 p.0) refl none (each-stands ps) where
  go : (b : Bool) → ltb p.1 p.0 ≡ b → (b || list_any is_period_reversed ps) ≡ false
      → (list_any is_period_reversed ps ≡ false → AllByRecursion (λ q. q.0 ≤ q.1) ps)
      → AllByRecursion (λ q. q.0 ≤ q.1) (p ∷ ps)
  go true is false_too more = absurd (cc)
  go false is rest more = (ltb-false p.1 p.0 is, more rest)

-- the number of the periods, and the current one, are within their limits
pub count-right : (r : RulesValue) → 1 ≤ length r.periods → length r.periods ≤ MOST_PERIODS
    → is_period_count_wrong r ≡ false
count-right r some few = or-false _ _ (le-ltb (length r.periods) 1 some) (le-ltb MOST_PERIODS (length r.periods) few)

pub current-inside : (r : RulesValue) → IsPeriodOf r.periods r.current → is_current_outside r ≡ false
current-inside r inside = or-false _ _ (le-ltb r.current 1 inside.low) (le-ltb (length r.periods) r.current inside.high)

pub counted-right : (r : RulesValue) → is_period_count_wrong r ≡ false → (1 ≤ length r.periods)
    × (length r.periods ≤ MOST_PERIODS)
counted-right r right =
    let both = or_parts (ltb (length r.periods) 1) (ltb MOST_PERIODS (length r.periods)) right in
    (ltb-false (length r.periods) 1 both.0, ltb-false MOST_PERIODS (length r.periods) both.1)

pub inside-current : (r : RulesValue) → is_current_outside r ≡ false → IsPeriodOf r.periods r.current
inside-current r inside =
    let both = or_parts (ltb r.current 1) (ltb (length r.periods) r.current) inside in
    record { low = ltb-false r.current 1 both.0; high = ltb-false (length r.periods) r.current both.1 }

pub no-period-fault : (r : RulesValue) → ArePeriods r.periods → IsPeriodOf r.periods r.current
    → first_period_fault r ≡ None
no-period-fault r are inside =
    current-fault r (count-right r are.some are.few) (none-reversed r.periods are.each) are.rise
    ∙ ap (λ b. cond b (Some CurrentOutside) None) (current-inside r inside)

pub fit-no_fault : FitRulesHaveNoFault
fit-no_fault r fit =
    after-lags r fit.few_admins fit.admins_rise
    (or-false _ _ (le-ltb MOST_LAG r.trusted_lag fit.lags_fit.trusted)
    (or-false _ _ (le-ltb MOST_LAG r.other_lag fit.lags_fit.other)
    (or-false _ _ (le-ltb MOST_LAG r.list_lag fit.lags_fit.listed)
    (le-ltb MOST_LAG r.reversal_window fit.lags_fit.reversal))))
    ∙ no-period-fault r fit.periods_fit fit.current_fits

-- without an earlier fault there is none exactly if the current period is one of the periods
pub none-exactly : (r : RulesValue) (b : Bool) (o : Option RulesFault) → o ≡ then_some b CurrentOutside
    → b ≡ is_current_outside r
    → is_period_count_wrong r ≡ false → list_any is_period_reversed r.periods ≡ false → PeriodsRise r.periods
    → (is_some o ≡ false → ArePeriods r.periods × IsPeriodOf r.periods r.current)
    × (ArePeriods r.periods × IsPeriodOf r.periods r.current → is_some o ≡ false)
none-exactly r b o is test right standing rise = (λ none. there (ap is_some (sym is) ∙ none), λ fit. back fit.1) where
  there : is_some (then_some b CurrentOutside) ≡ false → ArePeriods r.periods × IsPeriodOf r.periods r.current
  there none =
      let count = counted-right r right in (
        record { some = count.0; few = count.1; each = each-stands r.periods standing; rise = rise },
        inside-current r (sym test ∙ go b none),
      ) where
        go : (t : Bool) → is_some (then_some t CurrentOutside) ≡ false → t ≡ false
        go true e = absurd (cc)
        go false e = refl

  back : IsPeriodOf r.periods r.current → is_some o ≡ false
  back inside = ap is_some is ∙ ap (λ t. is_some (then_some t CurrentOutside)) (test ∙ current-inside r inside)
