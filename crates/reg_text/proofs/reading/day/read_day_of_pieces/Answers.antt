use Rattle.std.proofs.Common.{◌∙◌, ap}
use Rattle.reg_text.specs.Faults.{at_end}
use Rattle.reg_text.proofs.Readings.{reading-from}
use Rattle.reg_text.proofs.reading.day.read_day_of_pieces.Goals as goal

pub returns-clause-reads : goal.returns-clause-reads
returns-clause-reads g c = reading-from _ _ (c.in_ok-draft.ensures.2 ∙ ap (at_end 0) c.in_ok-day.ensures)
