use Rattle.std.proofs.Common.{length}
use Rattle.reg_rules.proofs.parties.«+none_is_closed».Given as goal

abbrev pub decreases-none_is_closed : goal.decreases-none_is_closed
decreases-none_is_closed l = length l.receivers.now
