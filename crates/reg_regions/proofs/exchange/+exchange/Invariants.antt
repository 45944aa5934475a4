use Rattle.std.proofs.Common.{length}
use Rattle.reg_regions.proofs.exchange.+exchange.Given as goal

abbrev pub decreases-exchange : goal.decreases-exchange
decreases-exchange g l = length l.lists.now
