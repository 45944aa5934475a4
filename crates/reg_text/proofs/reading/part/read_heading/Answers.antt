use Rattle.reg_text.proofs.DraftSteps.{nothing-fits}
use Rattle.reg_text.proofs.reading.part.read_heading.Goals as goal

pub take_heading-requires-clause-fits : goal.take_heading-requires-clause-fits
take_heading-requires-clause-fits c = rw c.empty-draft.ensures nothing-fits
