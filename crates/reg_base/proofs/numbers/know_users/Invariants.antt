use Rattle.std.proofs.Common.{ℕ, ◌<◌, get_or}
use Rattle.reg_base.specs.Numbers.{IsUserNo}
use Rattle.reg_base.proofs.numbers.know_users.Given as goal

abbrev pub invariant-loop-user : goal.invariant-loop-user
invariant-loop-user l = (k d : ℕ) → k < l.user-index → IsUserNo (get_or l.users k d)
