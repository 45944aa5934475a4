use Rattle.std.proofs.Common.{◌∙◌, ap, sym}
use Rattle.reg_text.proofs.Names.{is_text_over, day_said}
use Rattle.reg_text.proofs.DraftSteps.{over-fits}
use Rattle.reg_text.proofs.Readings.{over-says}
use Rattle.reg_text.proofs.reading.day.finish.Goals as goal

pub make_day-requires-clause-draft : goal.make_day-requires-clause-draft
make_day-requires-clause-draft c = rw c.in_ok-end_block.ensures.over (over-fits _ c.requires.draft)

pub returns : goal.returns
returns c = sym (over-says _ c.requires.draft (ap is_text_over c.requires.over))
    ∙ ap day_said (sym c.in_ok-end_block.ensures.over) ∙ c.in_ok-day.ensures
