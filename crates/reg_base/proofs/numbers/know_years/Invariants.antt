use Rattle.std.proofs.Common.{ℕ, ◌<◌, get_or}
use Rattle.reg_base.specs.Numbers.{IsYearNo}
use Rattle.reg_base.proofs.numbers.know_years.Given as goal

abbrev pub invariant-loop-pair : goal.invariant-loop-pair
invariant-loop-pair l = (k : ℕ) (d : ℕ × ℕ) → k < l.pair-index → IsYearNo (get_or l.pairs k d).0
    × IsYearNo (get_or l.pairs k d).1
