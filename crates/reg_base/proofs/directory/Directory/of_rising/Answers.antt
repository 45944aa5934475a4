use Rattle.reg_base.proofs.Lookups.{rises-by-number}
use Rattle.reg_base.proofs.directory.Directory.of_rising.Goals as goal

pub invariant_of-result : goal.invariant_of-result
invariant_of-result c = rises-by-number c.args.entries.items c.requires
