use Rattle.reg_cuts.proofs.lemmas.Splits.{records-split}
use Rattle.reg_cuts.proofs.laws.each_split_splits.Goals as goal

pub returns : goal.returns
returns c = records-split
