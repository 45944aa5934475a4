use Rattle.std.proofs.Common.{length}
use Rattle.reg_regions.proofs.admission.accounts.+are_listed_home.Given as goal

abbrev pub decreases-are_listed_home : goal.decreases-are_listed_home
decreases-are_listed_home l = length l.lists.now
