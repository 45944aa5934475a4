use Rattle.std.proofs.Common.{length}
use Rattle.reg_rules.proofs.amounts.«+overfills_any».Given as goal

abbrev pub decreases-overfills_any : goal.decreases-overfills_any
decreases-overfills_any l = length l.receivers.now
