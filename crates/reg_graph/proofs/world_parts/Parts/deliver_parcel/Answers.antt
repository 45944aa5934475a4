use Rattle.std.proofs.Common.{◌≡◌, ◌<◌, length, map, Some, None, sym, ap, ◌∙◌, rules}
use Rattle.std.specs.Prelude.{slice_get, slice_set}
use Rattle.std.proofs.lemmas.List.{map-set}
use Rattle.std.proofs.Math.Seq.{map-set_same}
use Rattle.reg_facts.proofs.lemmas.Lists.{slice_get-view}
use Rattle.reg_book.specs.Day.{day_of}
use Rattle.reg_graph.specs.declared.hand.Hand.TheVariants as hand
use Rattle.reg_schedules.specs.World.{Carries, delivered_by}
use Rattle.reg_tasks.specs.Parcels.{parcels_of}
use Rattle.reg_graph.specs.WorldParts.{hand_of, world_of}
use Rattle.reg_graph.proofs.PartFacts.{with-one, set-twice, set-back, deliver-anew, why-delivery}
use Rattle.reg_graph.proofs.world_parts.Parts.deliver_parcel.Goals as goal

pub deliver_held-requires-clause-sent : goal.deliver_held-requires-clause-sent
deliver_held-requires-clause-sent g c =
    let p = c.args.self.now in
    let w = world_of p in
    let k = c.args.worker in
    let here : k < length p.hands.items = search rules in
    let was = slice_get-view hand_of p.hands.items k c.index_mut.result.now here c.index_mut.ensures.value in
    let qs = parcels_of c.in-Carries.parcels.items in
    let held : slice_get w.hands k ≡ Some (Carries None qs) = was
    ∙ ap (λ h. Some (hand_of h)) (sym c.replace.ensures.value ∙ c.in-Carries.is
    ∙ ap (λ r. hand.Carries r c.in-Carries.parcels) c.in-None.is) in
    c.requires.sent qs held

pub deliver_held-requires-clause-room : goal.deliver_held-requires-clause-room
deliver_held-requires-clause-room g c =
    let p = c.args.self.now in
    let w = world_of p in
    let k = c.args.worker in
    let here : k < length p.hands.items = search rules in
    let was = slice_get-view hand_of p.hands.items k c.index_mut.result.now here c.index_mut.ensures.value in
    let qs = parcels_of c.in-Carries.parcels.items in
    let held : slice_get w.hands k ≡ Some (Carries None qs) = was
    ∙ ap (λ h. Some (hand_of h)) (sym c.replace.ensures.value ∙ c.in-Carries.is
    ∙ ap (λ r. hand.Carries r c.in-Carries.parcels) c.in-None.is) in
    c.requires.room qs held

pub returns-in-None-clause-answer : goal.returns-in-None-clause-answer
returns-in-None-clause-answer g c =
    let p = c.args.self.now in
    let w = world_of p in
    let k = c.args.worker in
    let here : k < length p.hands.items = search rules in
    let was = slice_get-view hand_of p.hands.items k c.index_mut.result.now here c.index_mut.ensures.value in
    let qs = parcels_of c.in-Carries.parcels.items in
    let held : slice_get w.hands k ≡ Some (Carries None qs) = was
    ∙ ap (λ h. Some (hand_of h)) (sym c.replace.ensures.value ∙ c.in-Carries.is
    ∙ ap (λ r. hand.Carries r c.in-Carries.parcels) c.in-None.is) in
    let plan = c.args.context.now.plan in
    let day = day_of c.args.context.now.book.now c.args.context.now.rules.now c.args.context.now.batch.now in
    let hands = map-set hand_of p.hands.items k c.replace.new.dest in
    let one = with-one w k (Carries None qs) (delivered_by day plan k w) held in
    let anew = ap (λ hs. delivered_by day plan k (record w { hands = hs }) (Carries None qs)) hands
    ∙ deliver-anew day plan k w (hand_of c.replace.new.dest) qs in
    why-delivery c.deliver_held.result _ _ _ _ _ _ c.deliver_held.ensures.ok c.deliver_held.ensures.err
    c.deliver_held.ensures.back (λ ok. one ∙ sym anew ∙ ok)
    (λ back. back ∙ ap (λ hs. record w { hands = slice_set hs k (Carries None qs) }) hands
    ∙ ap (λ hs. record w { hands = hs }) (set-twice w.hands k (hand_of c.replace.new.dest) (Carries None qs)
    ∙ set-back w.hands k (Carries None qs) held))
    (λ why e. one ∙ sym anew ∙ e)

pub returns-in-Some-clause-answer : goal.returns-in-Some-clause-answer
returns-in-Some-clause-answer g c =
    let p = c.args.self.now in
    let w = world_of p in
    let k = c.args.worker in
    let here : k < length p.hands.items = search rules in
    let was = slice_get-view hand_of p.hands.items k c.index_mut.result.now here c.index_mut.ensures.value in
    let plan = c.args.context.now.plan in
    let day = day_of c.args.context.now.book.now c.args.context.now.rules.now c.args.context.now.batch.now in
    let is = c.in-Carries.is ∙ ap (λ r. hand.Carries r c.in-Carries.parcels) c.in-Some.is in (
      ap (λ hs. record w { hands = map hand_of hs })
          (set-twice p.hands.items k c.replace.new.dest (hand.Carries (Some c.in-Some.task) c.in-Carries.parcels))
          ∙ ap (λ hs. record w { hands = hs })
          (map-set_same hand_of p.hands.items k (hand.Carries (Some c.in-Some.task) c.in-Carries.parcels)
          c.index_mut.result.now (ap hand_of (sym is ∙ c.replace.ensures.value ∙ c.index_mut.ensures.value))),
      with-one w k _ (delivered_by day plan k w) (was ∙ ap (λ h. Some (hand_of h)) (sym c.replace.ensures.value ∙ is)),
    )

pub returns-in-Holds-clause-answer : goal.returns-in-Holds-clause-answer
returns-in-Holds-clause-answer g c =
    let p = c.args.self.now in
    let w = world_of p in
    let k = c.args.worker in
    let here : k < length p.hands.items = search rules in
    let was = slice_get-view hand_of p.hands.items k c.index_mut.result.now here c.index_mut.ensures.value in
    let plan = c.args.context.now.plan in
    let day = day_of c.args.context.now.book.now c.args.context.now.rules.now c.args.context.now.batch.now in (
      ap (λ hs. record w { hands = map hand_of hs })
          (set-twice p.hands.items k c.replace.new.dest (hand.Holds c.in-Holds.task))
          ∙ ap (λ hs. record w { hands = hs })
          (map-set_same hand_of p.hands.items k (hand.Holds c.in-Holds.task) c.index_mut.result.now
          (ap hand_of (sym c.in-Holds.is ∙ c.replace.ensures.value ∙ c.index_mut.ensures.value))),
      with-one w k _ (delivered_by day plan k w)
          (was ∙ ap (λ h. Some (hand_of h)) (sym c.replace.ensures.value ∙ c.in-Holds.is)),
    )
