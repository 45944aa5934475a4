use Rattle.std.proofs.Common.{◌≡◌, drop}
use Rattle.reg_base.specs.Rising.{is_rising_from}
use Rattle.reg_account.specs.Trusted.{trusted_numbers}
use Rattle.reg_account.proofs.faults.have_rising_accounts.Given as goal

abbrev pub invariant-loop-entry : goal.invariant-loop-entry
invariant-loop-entry l = is_rising_from 0 (trusted_numbers l.entries)
    ≡ is_rising_from l.low (trusted_numbers (drop l.entry-index l.entries))
