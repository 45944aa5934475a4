use Rattle.std.proofs.Common.{◌≡◌, false, Some, [], ◌∷◌, ◌++◌, sym, ap, subst, ◌∙◌}
use Rattle.std.specs.Prelude.{Contains}
use Rattle.std.specs.Option.{option_map}
use Rattle.std.proofs.lemmas.List.Sorted.{Contains-permutation}
use Rattle.std.proofs.lemmas.Option.{IfSome_then}
use Rattle.reg_tasks.specs.Contexts.{the_day}
use Rattle.reg_tasks.specs.Parcels.{parcels_of}
use Rattle.reg_yard.specs.Parcels.{parcel_of}
use Rattle.reg_yard.specs.Dock.{came_to}
use Rattle.reg_yard.specs.Held.{is_refused, FitInDock}
use Rattle.reg_yard.proofs.Awaiting.{few-more, not-so, with-one, last-there}
use Rattle.reg_yard.proofs.dock.Dock.deliver.Goals as goal

pub try_assemble-waiting-requires-clause-few : goal.try_assemble-waiting-requires-clause-few
try_assemble-waiting-requires-clause-few g c =
    let dock = c.args.self.now in
    let day = the_day dock.context.now in
    let plan = dock.context.now.plan in
    let waiting = c.unwrap-parcels.result in
    let p = parcel_of c.args.parcel in
    let wait : dock.waiting ≡ Some waiting = sym c.take.ensures.value ∙ c.unwrap-parcels.ensures in
    let here : came_to dock ≡ Some (parcels_of waiting.items) =
    ap (option_map (λ parcels. parcels_of parcels.items)) wait in
    let awaited : is_refused day plan dock.place (came_to dock) p ≡ false =
    not-so (is_refused day plan dock.place (came_to dock) p) c.if-not-awaits.ensures.awaits in
    let now : parcels_of c.push_reserved.new.self.items ≡ parcels_of waiting.items ++ p ∷ [] =
    ap parcels_of c.push_reserved.ensures.items ∙ with-one waiting.items c.args.parcel in
    subst (FitInDock day plan dock.place) (sym now)
    (few-more day plan dock.place (parcels_of waiting.items) p (dock.few waiting wait)
    (subst (λ came. is_refused day plan dock.place came p ≡ false) here awaited))

pub returns-clause-has : goal.returns-clause-has
returns-clause-has g c =
    IfSome_then c.try_assemble-waiting.result.1 c.try_assemble-waiting.ensures.parcels (λ t same.
    Contains-permutation c.push_reserved.new.self.items t.parcels.items c.args.parcel same
    (subst (λ ps. Contains ps c.args.parcel) (sym c.push_reserved.ensures.items)
    (last-there c.unwrap-parcels.result.items c.args.parcel)))
