use Rattle.std.proofs.Common.{length}
use Rattle.reg_regions.proofs.admission.+count_all.Given as goal

abbrev pub decreases-count_all : goal.decreases-count_all
decreases-count_all l = length l.lists.now
