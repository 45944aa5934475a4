use Rattle.std.proofs.Common.{◌≡◌, [], ◌∷◌, ◌++◌, length, map, Some, None, Ok, sym, ap, ◌∙◌, vec_len, rules, arith}
use Rattle.std.specs.Prelude.{slice_set}
use Rattle.std.specs.Option.{option_map}
use Rattle.std.proofs.lemmas.List.{map-set, map-append, length-map}
use Rattle.reg_book.specs.Day.{day_of}
use Rattle.reg_graph.specs.declared.hand.Hand.TheVariants as hand
use Rattle.reg_schedules.specs.Docks.{ParcelValue, complete}
use Rattle.reg_schedules.specs.World.{Carries, with_place, after_delivery, delivered_by}
use Rattle.reg_tasks.specs.Parcels.{parcels_of}
use Rattle.reg_tasks.specs.Tasks.{task_of}
use Rattle.reg_graph.specs.WorldParts.{hand_of, docks_of, world_of, first_head}
use Rattle.reg_schedules.proofs.lemmas.WorldSums.{at_within, length-place}
use Rattle.reg_schedules.proofs.lemmas.WorldCounts.{dock-of}
use Rattle.reg_graph.proofs.PartFacts.{goes-to, still-none, place-twice, first-is}
use Rattle.reg_graph.proofs.world_parts.Parts.deliver_held.Goals as goal

pub returns-in_default-clause-back : goal.returns-in_default-clause-back
returns-in_default-clause-back g c = ap (λ hs. record (world_of c.args.self.now) { hands = hs })
    (map-set hand_of c.args.self.now.hands.items c.args.worker (hand.Carries None c.args.parcels))

pub returns-in_default-take_dock-clause-back : goal.returns-in_default-take_dock-clause-back
returns-in_default-take_dock-clause-back g c =
    let w = world_of c.args.self.now in
    ap (λ ds. record w {
      docks = ds;
      hands = map hand_of (slice_set c.args.self.now.hands.items c.args.worker
          (hand.Carries None c.args.parcels));
    }) (c.take_dock.ensures.left
    ∙ still-none w.docks c.in-Some.place (sym c.in_default-take_dock.ensures.came))
    ∙ ap (λ hs. record w { hands = hs })
    (map-set hand_of c.args.self.now.hands.items c.args.worker (hand.Carries None c.args.parcels))

pub receive-requires-clause-place : goal.receive-requires-clause-place
receive-requires-clause-place g c =
    let w = world_of c.args.self.now in
    let there = at_within w.docks c.in-Some.place _
    (dock-of w c.in-Some.place _ (sym c.in-Some-take_dock.ensures.came)) in
    let docks = length-map c.args.self.now.docks.items (option_map (λ came. parcels_of came.items)) in
    (there.0, omega (arith, there.1, docks, c.requires.places))

pub receive-requires-clause-room : goal.receive-requires-clause-room
receive-requires-clause-room g c =
    let plan = c.args.context.now.plan in
    let came = c.in-Some-take_dock.came in
    let head : first_head plan (parcels_of c.args.parcels.items) ≡ Some c.in-Some.place =
    ap (λ ps. first_head plan (parcels_of ps)) (sym c.deref.ensures.value) ∙ sym c.in-Some.ensures in
    let size : length came.items ≡ vec_len came = search rules in
    let many : length (parcels_of came.items) ≡ length came.items = length-map came.items _ in
    let day = day_of c.args.context.now.book.now c.args.context.now.rules.now c.args.context.now.batch.now in
    omega (
      arith,
      c.requires.room c.in-Some.place (parcels_of came.items) head (sym c.in-Some-take_dock.ensures.came),
      c.in-Some-take_dock.ensures.room day c.requires.rooms,
      size,
      many,
    )

pub put_dock-requires-clause-within : goal.put_dock-requires-clause-within
put_dock-requires-clause-within g c =
    let w = world_of c.args.self.now in
    omega (
      arith,
      (at_within w.docks c.in-Some.place _ (dock-of w c.in-Some.place _ (sym c.in-Some-take_dock.ensures.came))).1,
      ap length c.take_dock.ensures.left,
      length-place w.docks c.in-Some.place None,
      length-map c.take_dock.new.docks.items (option_map (λ came. parcels_of came.items)),
    )

pub returns-in-Ok-clause-ok : goal.returns-in-Ok-clause-ok
returns-in-Ok-clause-ok g c =
    let p = c.args.self.now in
    let w = world_of p in
    let k = c.args.worker in
    let plan = c.args.context.now.plan in
    let day = day_of c.args.context.now.book.now c.args.context.now.rules.now c.args.context.now.batch.now in
    let place = c.in-Some.place in
    let came = c.in-Some-take_dock.came in
    let rest = c.remove-parcel.new.self.items in
    let one : ParcelValue = record { value = c.remove-parcel.result.value; after = c.remove-parcel.result.after } in
    let head : first_head plan (parcels_of c.args.parcels.items) ≡ Some place =
    ap (λ ps. first_head plan (parcels_of ps)) (sym c.deref.ensures.value) ∙ sym c.in-Some.ensures in
    let split = first-is plan c.args.parcels.items place c.remove-parcel.result rest head c.remove-parcel.ensures.value
    c.remove-parcel.ensures.by_index.2 in
    let all : parcels_of (came.items ++ c.remove-parcel.result ∷ []) ≡ parcels_of came.items ++ one ∷ [] =
    map-append (λ p. record { value = p.value; after = p.after }) came.items (c.remove-parcel.result ∷ []) in
    let done : complete day plan place (parcels_of came.items ++ one ∷ []) ≡ Some (task_of c.in-Ok.task) =
    ap (complete day plan place) (sym all) ∙ c.in-Ok.ensures in
    ap (λ ps. delivered_by day plan k w (Carries None (parcels_of ps))) split
    ∙ goes-to day plan k w one (parcels_of rest) place (parcels_of came.items)
    (ap (λ ps. first_head plan (parcels_of ps)) (sym split) ∙ head) (sym c.in-Some-take_dock.ensures.came)
    ∙ ap (λ o. Ok (after_delivery k w (parcels_of rest) place (parcels_of came.items ++ one ∷ []) o)) done
    ∙ ap (λ ds. Ok (record w {
      docks = ds;
      hands = slice_set w.hands k (Carries (Some (task_of c.in-Ok.task)) (parcels_of rest));
    }))
    (sym c.take_dock.ensures.left)
    ∙ ap (λ hs. Ok (record w { docks = docks_of c.take_dock.new.docks.items; hands = hs }))
    (sym (map-set hand_of p.hands.items k (hand.Carries (Some c.in-Ok.task) c.remove-parcel.new.self)))

pub returns-in-Err-clause-ok : goal.returns-in-Err-clause-ok
returns-in-Err-clause-ok g c =
    let p = c.args.self.now in
    let w = world_of p in
    let k = c.args.worker in
    let plan = c.args.context.now.plan in
    let day = day_of c.args.context.now.book.now c.args.context.now.rules.now c.args.context.now.batch.now in
    let place = c.in-Some.place in
    let came = c.in-Some-take_dock.came in
    let rest = c.remove-parcel.new.self.items in
    let one : ParcelValue = record { value = c.remove-parcel.result.value; after = c.remove-parcel.result.after } in
    let head : first_head plan (parcels_of c.args.parcels.items) ≡ Some place =
    ap (λ ps. first_head plan (parcels_of ps)) (sym c.deref.ensures.value) ∙ sym c.in-Some.ensures in
    let split = first-is plan c.args.parcels.items place c.remove-parcel.result rest head c.remove-parcel.ensures.value
    c.remove-parcel.ensures.by_index.2 in
    let all : parcels_of (came.items ++ c.remove-parcel.result ∷ []) ≡ parcels_of came.items ++ one ∷ [] =
    map-append (λ p. record { value = p.value; after = p.after }) came.items (c.remove-parcel.result ∷ []) in
    let open_yet : complete day plan place (parcels_of came.items ++ one ∷ []) ≡ None =
    ap (complete day plan place) (sym all) ∙ c.in-Err.ensures.2 in
    let docks : with_place w.docks place (Some (parcels_of came.items ++ one ∷ []))
    ≡ docks_of c.put_dock.new.docks.items
    = sym (place-twice w.docks place None (Some (parcels_of came.items ++ one ∷ [])))
    ∙ ap (λ ds. with_place ds place (Some (parcels_of came.items ++ one ∷ []))) (sym c.take_dock.ensures.left)
    ∙ ap (λ ps. with_place (docks_of c.take_dock.new.docks.items) place (Some ps))
    (sym all ∙ ap parcels_of (sym c.in-Err.ensures.0)) ∙ sym c.put_dock.ensures.there in
    ap (λ ps. delivered_by day plan k w (Carries None (parcels_of ps))) split
    ∙ goes-to day plan k w one (parcels_of rest) place (parcels_of came.items)
    (ap (λ ps. first_head plan (parcels_of ps)) (sym split) ∙ head) (sym c.in-Some-take_dock.ensures.came)
    ∙ ap (λ o. Ok (after_delivery k w (parcels_of rest) place (parcels_of came.items ++ one ∷ []) o)) open_yet
    ∙ ap (λ ds. Ok (record w { docks = ds; hands = slice_set w.hands k (Carries None (parcels_of rest)) })) docks
    ∙ ap (λ hs. Ok (record w { docks = docks_of c.put_dock.new.docks.items; hands = hs }))
    (sym (map-set hand_of p.hands.items k (hand.Carries None c.remove-parcel.new.self)))

pub returns-in_default-take_dock-clause-rooms : goal.returns-in_default-take_dock-clause-rooms
returns-in_default-take_dock-clause-rooms g c =
    c.take_dock.ensures.rooms
    (day_of c.args.context.now.book.now c.args.context.now.rules.now c.args.context.now.batch.now)
    c.requires.rooms

pub returns-in-Ok-clause-rooms : goal.returns-in-Ok-clause-rooms
returns-in-Ok-clause-rooms g c =
    c.take_dock.ensures.rooms
    (day_of c.args.context.now.book.now c.args.context.now.rules.now c.args.context.now.batch.now)
    c.requires.rooms

pub returns-in-Err-clause-rooms : goal.returns-in-Err-clause-rooms
returns-in-Err-clause-rooms g c =
    let day = day_of c.args.context.now.book.now c.args.context.now.rules.now c.args.context.now.batch.now in
    c.put_dock.ensures.rooms day (c.take_dock.ensures.rooms day c.requires.rooms) (c.in-Err.ensures.1
    ∙ c.in-Some-take_dock.ensures.room day c.requires.rooms)
