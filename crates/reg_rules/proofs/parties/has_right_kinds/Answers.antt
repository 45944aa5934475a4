use Rattle.reg_rules.proofs.Mapped.{kinds-answer}
use Rattle.reg_rules.proofs.parties.has_right_kinds.Goals as goal

pub returns-then-fits_first : goal.returns-then-fits_first
returns-then-fits_first c =
    kinds-answer _ _ _ c.case.invariant _ c.case.view_is c.kind-first.result c.fits_first.result c.receivers_fit.result
    c.kind-first.ensures c.fits_first.ensures c.if-fits_first.true c.receivers_fit.ensures
