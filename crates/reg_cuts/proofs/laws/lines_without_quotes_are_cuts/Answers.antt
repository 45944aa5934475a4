use Rattle.reg_cuts.proofs.lemmas.Splits.{whole}
use Rattle.reg_cuts.proofs.laws.lines_without_quotes_are_cuts.Goals as goal

pub returns : goal.returns
returns c = whole
