use Rattle.std.proofs.Common.{◌+◌, ◌≤◌, ◌<◌, inl, inr, ◌⊎◌, sym, arith}
use Rattle.reg_base.specs.declared.limits.TheConstants.{MOST_RETIRED, MOST_PERIODS}
use Rattle.reg_base.specs.declared.kinds.AllowanceKind.TheVariants.{General, Aviation}
use Rattle.reg_base.specs.declared.kinds.Retirement.TheVariants.{Surrendered}
use Rattle.reg_account.proofs.PeriodSums.{surrendered_at_most, none_outside}
use Rattle.reg_account.proofs.account.Account.surrendered_for.Goals as goal
use Rattle.reg_account.proofs.account.Account.surrendered_for.Goals.{After-surrendered_for}

-- the sum is at most both limits together
at_most : (c : After-surrendered_for) → c.surrendered_for.result ≤ MOST_RETIRED + MOST_RETIRED
at_most c =
    let is = c.surrendered_for.ensures in
    let both = surrendered_at_most c.args.period c.self.inside.parts.lists.rows in
    let g = c.self.invariant.retired_fits.at Surrendered General in
    let a = c.self.invariant.retired_fits.at Surrendered Aviation in
    omega (arith, is, both, g, a)

pub returns-then-period-lt1-clause-value : goal.returns-then-period-lt1-clause-value
returns-then-period-lt1-clause-value c =
    sym (none_outside c.args.period c.args.self.now.rows c.is_within_limits.ensures.rows_fit.each
    (outside c.then-period-lt1.either)) where
      outside : (c.args.period < 1) ⊎ ((1 ≤ c.args.period) × (MOST_PERIODS < c.args.period)) → (c.args.period < 1)
          ⊎ (MOST_PERIODS < c.args.period)
      outside (inl low) = inl low
      outside (inr high) = inr high.1

pub overflow_cast-result : goal.overflow_cast-result
overflow_cast-result c = let most = at_most c in omega (arith, most)

pub returns-clause-limit : goal.returns-clause-limit
returns-clause-limit c = at_most c
