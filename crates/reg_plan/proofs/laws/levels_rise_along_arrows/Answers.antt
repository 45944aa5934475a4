use Rattle.reg_plan.proofs.LevelFacts.{levels_rise}
use Rattle.reg_plan.proofs.laws.levels_rise_along_arrows.Goals as goal

pub returns : goal.returns
returns c = levels_rise
