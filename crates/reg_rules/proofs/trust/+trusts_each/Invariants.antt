use Rattle.std.proofs.Common.{length}
use Rattle.reg_rules.proofs.trust.«+trusts_each».Given as goal

abbrev pub decreases-trusts_each : goal.decreases-trusts_each
decreases-trusts_each l = length l.receivers.now
