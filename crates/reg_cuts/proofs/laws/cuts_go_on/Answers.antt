use Rattle.reg_cuts.proofs.lemmas.Splits.{cuts-go-on}
use Rattle.reg_cuts.proofs.laws.cuts_go_on.Goals as goal

pub returns : goal.returns
returns c = cuts-go-on
