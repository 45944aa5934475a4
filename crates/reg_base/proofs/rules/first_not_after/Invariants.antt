use Rattle.std.proofs.Common.{ℕ, ◌+◌, ◌<◌, get_or}
use Rattle.reg_base.specs.Periods.{first_years, last_years}
use Rattle.reg_base.proofs.rules.first_not_after.Given as goal

abbrev pub invariant-loop-next : goal.invariant-loop-next
invariant-loop-next l = (k : ℕ) → k + 1 < l.next
    → get_or (last_years l.periods) k 0 < get_or (first_years l.periods) (k + 1) 0
