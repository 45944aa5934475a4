use Rattle.std.proofs.Common.{◌≡◌, drop}
use Rattle.reg_base.specs.Rising.{is_rising_from}
use Rattle.reg_rules.specs.State.{numbers}
use Rattle.reg_tasks.proofs.gather.are_rising.Given as goal

-- what is left answers as all do
abbrev pub invariant-loop-account : goal.invariant-loop-account
invariant-loop-account l =
    is_rising_from l.least (numbers (drop l.account-index l.accounts)) ≡ is_rising_from 0 (numbers l.accounts)
