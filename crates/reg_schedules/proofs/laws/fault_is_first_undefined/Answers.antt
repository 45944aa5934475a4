use Rattle.reg_schedules.proofs.FirstUndefined.{first-undefined}
use Rattle.reg_schedules.proofs.laws.fault_is_first_undefined.Goals as goal

pub returns : goal.returns
returns c = λ day plan order fault made some other.
    let at = c.fault_is_at_first_position.ensures plan order fault some other in
    (at.0, first-undefined c.undefined_at_first_fault.ensures day plan order fault made at.0 at.1)
