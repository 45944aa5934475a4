use Rattle.std.proofs.Common.{◌≡◌, drop}
use Rattle.reg_base.specs.Rising.{is_rising_from}
use Rattle.reg_account.specs.Corrections.{correction_periods}
use Rattle.reg_account.proofs.faults.have_rising_periods.Given as goal

abbrev pub invariant-loop-correction : goal.invariant-loop-correction
invariant-loop-correction l = is_rising_from 0 (correction_periods l.corrections)
    ≡ is_rising_from l.low (correction_periods (drop l.correction-index l.corrections))
