use Rattle.reg_base.proofs.Touchers.{last_toucher-last}
use Rattle.reg_base.proofs.laws.last_toucher_is_last.Goals as goal

pub returns : goal.returns
returns c = last_toucher-last
