use Rattle.std.proofs.Common.{ℕ, ◌<◌, get_or}
use Rattle.reg_base.specs.Numbers.{IsDayNo}
use Rattle.reg_base.proofs.numbers.know_days.Given as goal

abbrev pub invariant-loop-day : goal.invariant-loop-day
invariant-loop-day l = (k d : ℕ) → k < l.day-index → IsDayNo (get_or l.days k d)
