use Rattle.std.proofs.Common.{◌∷◌, ◌++◌, [], ap, ◌∙◌}
use Rattle.std.proofs.lemmas.List.{map-append}
use Rattle.reg_tasks.specs.LastParcels.{parcels_in}
use Rattle.reg_work.proofs.worker.Worker+Task+N+N+S.keep.Goals as goal

pub returns-clause-kept : goal.returns-clause-kept
returns-clause-kept g c =
    let before = c.args.self.now.closing.items in
    ap parcels_in c.in_ok-push.ensures.items
    ∙ map-append (λ l. l.parcel) before (c.in-Ok.last ∷ [])
    ∙ ap (λ p. parcels_in before ++ p ∷ []) c.in-Ok.ensures.0
