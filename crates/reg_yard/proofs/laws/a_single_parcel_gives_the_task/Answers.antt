use Rattle.reg_yard.proofs.Taken.{single-gives}
use Rattle.reg_yard.proofs.laws.a_single_parcel_gives_the_task.Goals as goal

pub returns : goal.returns
returns c = single-gives
