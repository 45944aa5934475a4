use Rattle.reg_text.proofs.PartFacts.{joins}
use Rattle.reg_text.proofs.laws.parts_join.Goals as goal

pub returns : goal.returns
returns c = joins
