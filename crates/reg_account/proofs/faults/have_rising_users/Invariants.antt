use Rattle.std.proofs.Common.{◌≡◌, drop}
use Rattle.reg_base.specs.Rising.{is_rising_from}
use Rattle.reg_account.specs.Users.{user_numbers}
use Rattle.reg_account.proofs.faults.have_rising_users.Given as goal

abbrev pub invariant-loop-representative : goal.invariant-loop-representative
invariant-loop-representative l =
    is_rising_from 0 (user_numbers l.users) ≡ is_rising_from l.low (user_numbers (drop l.representative-index l.users))
