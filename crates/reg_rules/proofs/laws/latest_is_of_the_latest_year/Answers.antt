use Rattle.reg_rules.proofs.LatestFigures.{latest_year}
use Rattle.reg_rules.proofs.laws.latest_is_of_the_latest_year.Goals as goal

pub returns : goal.returns
returns c = latest_year
