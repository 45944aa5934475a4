use Rattle.std.proofs.Common.{◌≡◌, drop}
use Rattle.reg_base.specs.Rising.{is_rising_from}
use Rattle.reg_account.specs.Years.{emission_years}
use Rattle.reg_account.proofs.faults.have_rising_emission_years.Given as goal

abbrev pub invariant-loop-emission : goal.invariant-loop-emission
invariant-loop-emission l = is_rising_from 0 (emission_years l.emissions)
    ≡ is_rising_from l.low (emission_years (drop l.emission-index l.emissions))
