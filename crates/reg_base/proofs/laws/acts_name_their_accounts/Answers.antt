use Rattle.reg_base.proofs.Named.{acts_name}
use Rattle.reg_base.proofs.laws.acts_name_their_accounts.Goals as goal

pub returns : goal.returns
returns c = acts_name
