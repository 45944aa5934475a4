use Rattle.reg_book.proofs.Values.{each-step}
use Rattle.reg_book.proofs.laws.each_is_a_step.Goals as goal

pub returns : goal.returns
returns c = each-step
