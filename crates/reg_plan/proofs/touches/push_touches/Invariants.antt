use Rattle.std.proofs.Common.{◌≡◌, ◌++◌, take}
use Rattle.reg_plan.specs.TouchList.{touched_at}
use Rattle.reg_plan.proofs.touches.push_touches.Given as goal

abbrev pub invariant-loop-account : goal.invariant-loop-account
invariant-loop-account l = l.touches.items ≡ l.fn.touches.items ++ touched_at l.place (take l.account-index l.accounts)
