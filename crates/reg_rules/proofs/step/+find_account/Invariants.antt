use Rattle.std.proofs.Common.{length}
use Rattle.reg_rules.proofs.step.«+find_account».Given as goal

abbrev pub decreases-find_account : goal.decreases-find_account
decreases-find_account l = length l.indexes.now
