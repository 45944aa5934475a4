use Rattle.std.proofs.Common.{length}
use Rattle.reg_rules.proofs.parties.«+has_repeat».Given as goal

abbrev pub decreases-has_repeat : goal.decreases-has_repeat
decreases-has_repeat l = length l.shares.now
