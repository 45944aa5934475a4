use Rattle.std.proofs.Common.{ℕ, ◌<◌, get_or}
use Rattle.reg_account.specs.declared.years.Emission.{Emission}
use Rattle.reg_account.specs.Years.{EmissionIsInRange}
use Rattle.reg_account.proofs.ranges.know_emissions.Given as goal

abbrev pub invariant-loop-emission : goal.invariant-loop-emission
invariant-loop-emission l = (k : ℕ) (d : Emission) → k < l.emission-index → EmissionIsInRange (get_or l.emissions k d)
