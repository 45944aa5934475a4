use Rattle.reg_book.proofs.Commits.{committed-closing, settled-touched}
use Rattle.reg_book.proofs.laws.settled_is_closing.Goals as goal

pub returns : goal.returns
returns c = record { settled = settled-touched; committed = committed-closing c.step_laws.ensures }
