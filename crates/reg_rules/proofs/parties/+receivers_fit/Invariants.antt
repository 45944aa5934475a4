use Rattle.std.proofs.Common.{length}
use Rattle.reg_rules.proofs.parties.«+receivers_fit».Given as goal

abbrev pub decreases-receivers_fit : goal.decreases-receivers_fit
decreases-receivers_fit l = length l.receivers.now
