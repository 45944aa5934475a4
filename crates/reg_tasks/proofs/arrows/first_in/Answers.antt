use Rattle.std.proofs.Common.{sym}
use Rattle.reg_tasks.proofs.Firsts.{first_nowhere, first_there}
use Rattle.reg_tasks.proofs.arrows.first_in.Goals as goal

pub returns-in-Some : goal.returns-in-Some
returns-in-Some c = sym (first_there c.args.openings.now c.in-Some.slot c.args.account c.index-openings-slot.result
    c.requires c.in-Some.ensures.0 c.in-Some.ensures.1)

pub returns-in-None : goal.returns-in-None
returns-in-None c = sym (first_nowhere c.args.openings.now c.args.account c.in-None.ensures)
