use Rattle.std.proofs.Common.{length}
use Rattle.reg_rules.proofs.step.«+give_shares».Given as goal

abbrev pub decreases-give_shares : goal.decreases-give_shares
decreases-give_shares l = length l.indexes.now
