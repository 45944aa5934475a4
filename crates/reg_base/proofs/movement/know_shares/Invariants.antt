use Rattle.std.proofs.Common.{ℕ, ◌<◌, ◌^◌, get_or}
use Rattle.reg_base.specs.Numbers.{IsAccountNo}
use Rattle.reg_base.specs.declared.shares.Share.{Share}
use Rattle.reg_base.proofs.movement.know_shares.Given as goal

abbrev pub invariant-loop-share : goal.invariant-loop-share
invariant-loop-share l = (k : ℕ) (d : Share) → k < l.share-index → IsAccountNo (get_or l.shares k d).to
    × ((get_or l.shares k d).amount < 2 ^ 64)
