use Rattle.std.proofs.Common.{◌++◌, ◌∷◌, [], refl, ap, ◌∙◌}
use Rattle.reg_work.specs.declared.shift.Shift.{Shift}
use Rattle.reg_work.proofs.Ordered.{shift-alone}
use Rattle.reg_work.proofs.alone.only_shift.Goals as goal

pub returns : goal.returns
returns g c = λ count each.
    let shift : Shift _ = record { worker = 0; ran = c.args.ran } in
    shift-alone count c.keep.new.items.items shift (c.in_ok-keep.ensures
    ∙ ap (λ shifts. shifts ++ shift ∷ []) c.in_ok-shifts.ensures.items) refl each
