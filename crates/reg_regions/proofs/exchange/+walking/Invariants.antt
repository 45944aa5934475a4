use Rattle.std.proofs.Common.{◌+◌, ◌*◌, length}
use Rattle.reg_regions.proofs.exchange.+walking.Given as goal

abbrev pub decreases-swap_two : goal.decreases-swap_two
decreases-swap_two g l = 2 * length l.lists.now

abbrev pub decreases-swap_from : goal.decreases-swap_from
decreases-swap_from g l = 2 * length l.later.now + 1
