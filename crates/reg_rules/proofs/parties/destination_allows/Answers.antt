use Rattle.std.proofs.Common.{◌∙◌, ap}
use Rattle.reg_rules.specs.ActRules.{fits_first_receiver}
use Rattle.reg_rules.proofs.Mapped.{closed-answer}
use Rattle.reg_rules.proofs.parties.destination_allows.Goals as goal

pub returns-then-fits_first_receiver : goal.returns-then-fits_first_receiver
returns-then-fits_first_receiver c =
    closed-answer _ _ _ c.case.invariant _ c.case.view_is c.fits_first_receiver.result c.none_is_closed.result
    (c.fits_first_receiver.ensures ∙ ap (fits_first_receiver _) c.status.ensures) c.if-fits_first_receiver.true
    c.none_is_closed.ensures
