use Rattle.std.proofs.Common.{length}
use Rattle.reg_regions.proofs.lists.+cut_list.Given as goal

-- each front is shorter
abbrev pub decreases-cut_list : goal.decreases-cut_list
decreases-cut_list l = length l.list.items
