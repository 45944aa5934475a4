use Rattle.std.proofs.Common.{◌-◌, refl}
use Rattle.reg_regions.proofs.Marking.{marked-one}
use Rattle.reg_regions.proofs.admission.places.mark_if_new.Goals as goal

pub returns-clause-marked : goal.returns-clause-marked
returns-clause-marked c truth done marked =
    marked-one done c.args.marks.now c.args.place (c.args.place - 1) c.if-place-lt1.false refl c.if-index-marks.false
    c.if-marks-index.false marked
