use Rattle.reg_cuts.proofs.lemmas.Splits.{rows-split}
use Rattle.reg_cuts.proofs.laws.each_cut_splits.Goals as goal

pub returns : goal.returns
returns c = rows-split
