use Rattle.std.proofs.Common.{ap, sym, ◌∙◌, length}
use Rattle.std.proofs.lemmas.List.{length-map}
use Rattle.reg_tasks.specs.LastParcels.{parcels_in}
use Rattle.reg_tasks.specs.Parcels.{names_of}
use Rattle.reg_tasks.specs.Slots.{opened_accounts}
use Rattle.reg_tasks.proofs.Collecting.{uneven}
use Rattle.reg_tasks.proofs.collect.have_accounts.Goals as goal

pub returns-then-parcels-openings : goal.returns-then-parcels-openings
returns-then-parcels-openings g c =
    let lasts = c.args.parcels.now in
    let openings = c.args.context.now.plan.openings in
    sym (uneven (opened_accounts openings) (names_of (parcels_in lasts)) (λ e. c.if-parcels-openings.true
    (sym (length-map lasts _) ∙ sym (length-map (parcels_in lasts) _) ∙ e ∙ length-map openings _
    ∙ ap length (sym c.openings-openings.ensures.value))))
