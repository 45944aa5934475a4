use Rattle.std.proofs.Common.{◌≡◌, ◌-◌, ◌≤◌, ◌<◌, length, None, sym, ap, subst, ◌∙◌, rules}
use Rattle.std.specs.Prelude.{slice_set, IfSome, vec_capacity}
use Rattle.std.specs.Option.{option_map, option_map_or}
use Rattle.std.proofs.lemmas.List.{map-set}
use Rattle.reg_facts.proofs.lemmas.Lists.{slice_get-view}
use Rattle.reg_schedules.specs.Pool.{footprint_at}
use Rattle.reg_tasks.specs.Parcels.{parcels_of}
use Rattle.reg_graph.specs.WorldParts.{docks_of, DocksHaveRoom}
use Rattle.reg_graph.proofs.PartFacts.{placed, at-placed}
use Rattle.reg_graph.proofs.DockRoom.{room-at, room-gone}
use Rattle.reg_graph.proofs.delivery.take_dock.Goals as goal

pub returns-clause-came : goal.returns-clause-came
returns-clause-came g c =
    let docks = c.args.docks.now.items in
    let low : 1 ≤ c.args.place = search rules in
    let here : c.args.place - 1 < length docks = search rules in
    ap (option_map (λ came. parcels_of came.items)) c.take.ensures.value
    ∙ sym (ap (λ o. option_map_or (λ d. d) o None) (at-placed (docks_of docks) c.args.place low
    ∙ slice_get-view (option_map (λ came. parcels_of came.items)) docks (c.args.place - 1) c.index_mut.result.now here
    c.index_mut.ensures.value))

pub returns-clause-left : goal.returns-clause-left
returns-clause-left g c =
    let docks = c.args.docks.now.items in
    let low : 1 ≤ c.args.place = search rules in
    map-set (option_map (λ came. parcels_of came.items)) docks (c.args.place - 1) c.take.new.self
    ∙ ap (λ d. slice_set (docks_of docks) (c.args.place - 1) (option_map (λ came. parcels_of came.items) d))
    c.take.ensures.after
    ∙ sym (placed (docks_of docks) c.args.place None low)

pub returns-clause-room : goal.returns-clause-room
returns-clause-room g c = λ day rooms.
    let docks = c.args.docks.now.items in
    let low : 1 ≤ c.args.place = search rules in
    let here : c.args.place - 1 < length docks = search rules in
    subst (λ d. IfSome d (λ came. vec_capacity came ≡ length (footprint_at day c.args.place)))
    (sym c.take.ensures.value)
    (room-at day docks c.args.place c.index_mut.result.now low here c.index_mut.ensures.value rooms)

pub returns-clause-rooms : goal.returns-clause-rooms
returns-clause-rooms g c = λ day rooms.
    subst (λ d. DocksHaveRoom day (slice_set c.args.docks.now.items (c.args.place - 1) d)) (sym c.take.ensures.after)
    (room-gone day c.args.docks.now.items (c.args.place - 1) rooms)
