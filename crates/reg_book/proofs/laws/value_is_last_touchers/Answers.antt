use Rattle.reg_book.proofs.Values.{value-last_toucher}
use Rattle.reg_book.proofs.laws.value_is_last_touchers.Goals as goal

pub returns : goal.returns
returns c = value-last_toucher c.step_laws.ensures
