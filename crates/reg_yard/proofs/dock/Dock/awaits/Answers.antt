use Rattle.std.proofs.Common.{Bool, List, Option, Some, ◌≡◌, ◌∙◌, sym, ap}
use Rattle.std.specs.Prelude.{not}
use Rattle.std.specs.Option.{option_map}
use Rattle.reg_schedules.specs.Docks.{ParcelValue}
use Rattle.reg_tasks.specs.Contexts.{the_day}
use Rattle.reg_tasks.specs.Parcels.{parcels_of}
use Rattle.reg_yard.specs.Parcels.{parcel_of}
use Rattle.reg_yard.specs.Held.{is_refused}
use Rattle.reg_yard.specs.Dock.{came_to}
use Rattle.reg_yard.proofs.dock.Dock.awaits.Goals as goal

pub returns-in-Some-clause-awaits : goal.returns-in-Some-clause-awaits
returns-in-Some-clause-awaits g c =
    let dock = c.args.self.now in
    let awaits : Option (List ParcelValue)
    → Bool = λ came. not (is_refused (the_day dock.context.now) dock.context.now.plan dock.place came
    (parcel_of c.args.parcel.now)) in
    let same : parcels_of c.deref.result.now ≡ parcels_of c.in-Some.waiting.items =
    ap parcels_of c.deref.ensures.value in
    let here : Some (parcels_of c.in-Some.waiting.items) ≡ came_to dock =
    ap (option_map (λ parcels. parcels_of parcels.items)) (sym c.in-Some.is) in
    ◌∙◌ {b = awaits (Some (parcels_of c.deref.result.now))} c.is_awaited.ensures (ap awaits (ap Some same ∙ here))
