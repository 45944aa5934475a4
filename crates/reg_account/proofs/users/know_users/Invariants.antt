use Rattle.std.proofs.Common.{ℕ, ◌<◌, get_or}
use Rattle.reg_account.specs.declared.users.Representative.{Representative}
use Rattle.reg_account.specs.Users.{UserIsInRange}
use Rattle.reg_account.proofs.users.know_users.Given as goal

abbrev pub invariant-loop-representative : goal.invariant-loop-representative
invariant-loop-representative l = (k : ℕ) (d : Representative) → k < l.representative-index
    → UserIsInRange (get_or l.users k d)
