use Rattle.reg_book.proofs.Days.{settled-kept, settled-of_book}
use Rattle.reg_book.proofs.laws.settled_is_of_book.Goals as goal

pub returns : goal.returns
returns c = record {
  in_order = λ day kept. settled-kept c.step_laws.ensures day kept.book kept.batch;
  of_book = settled-of_book c.step_laws.ensures;
}
