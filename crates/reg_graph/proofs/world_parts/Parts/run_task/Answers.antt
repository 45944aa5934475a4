use Rattle.std.proofs.Common.{◌<◌, length, map, Some, sym, subst, ap, ◌∙◌, rules}
use Rattle.std.specs.Prelude.{slice_set, IsOk}
use Rattle.std.proofs.lemmas.List.{map-set}
use Rattle.std.proofs.Math.Seq.{map-set_same}
use Rattle.reg_facts.proofs.lemmas.Lists.{slice_get-view}
use Rattle.reg_book.specs.Day.{day_of}
use Rattle.reg_graph.specs.declared.hand.Hand.TheVariants as hand
use Rattle.reg_schedules.specs.World.{Holds, run_by}
use Rattle.reg_tasks.specs.Tasks.{task_of}
use Rattle.reg_graph.specs.WorldParts.{hand_of, world_of}
use Rattle.reg_graph.proofs.PartFacts.{with-one, set-twice, set-back, run-anew, can-run, why-run}
use Rattle.reg_graph.proofs.world_parts.Parts.run_task.Goals as goal

pub run_held-requires-clause-place : goal.run_held-requires-clause-place
run_held-requires-clause-place g c =
    let here : c.args.worker < length c.args.self.now.hands.items = search rules in
    c.requires.within (task_of c.in-Holds.task)
    (slice_get-view hand_of c.args.self.now.hands.items c.args.worker c.index_mut.result.now here
    c.index_mut.ensures.value
    ∙ ap (λ h. Some (hand_of h)) (sym c.replace.ensures.value ∙ c.in-Holds.is))

pub returns-in-Holds-clause-answer : goal.returns-in-Holds-clause-answer
returns-in-Holds-clause-answer g c =
    let p = c.args.self.now in
    let w = world_of p in
    let k = c.args.worker in
    let plan = c.args.context.now.plan in
    let day = day_of c.args.context.now.book.now c.args.context.now.rules.now c.args.context.now.batch.now in
    let task = task_of c.in-Holds.task in
    let here : k < length p.hands.items = search rules in
    let held = slice_get-view hand_of p.hands.items k c.index_mut.result.now here c.index_mut.ensures.value
    ∙ ap (λ h. Some (hand_of h)) (sym c.replace.ensures.value ∙ c.in-Holds.is) in
    let bounds = c.requires.within task held in
    let hands = map-set hand_of p.hands.items k c.replace.new.dest in
    let one = with-one w k (Holds task) (run_by day plan k w) held in
    why-run c.run_held.result _ _ _ _ _ c.run_held.ensures.ok c.run_held.ensures.err c.run_held.ensures.back
    (λ ok. one ∙ sym (ap (λ hs. run_by day plan k (record w { hands = hs }) (Holds task)) hands
    ∙ run-anew day plan k w (hand_of c.replace.new.dest) task) ∙ ok)
    (λ back. back ∙ ap (λ hs. record w { hands = slice_set hs k (Holds task) }) hands
    ∙ ap (λ hs. record w { hands = hs }) (set-twice w.hands k (hand_of c.replace.new.dest) (Holds task)
    ∙ set-back w.hands k (Holds task) held))
    (subst IsOk (sym one) (can-run day plan k w task bounds.0 bounds.1))

pub returns-in-Carries-clause-answer : goal.returns-in-Carries-clause-answer
returns-in-Carries-clause-answer g c =
    let p = c.args.self.now in
    let w = world_of p in
    let k = c.args.worker in
    let plan = c.args.context.now.plan in
    let day = day_of c.args.context.now.book.now c.args.context.now.rules.now c.args.context.now.batch.now in
    let here : k < length p.hands.items = search rules in
    let held = slice_get-view hand_of p.hands.items k c.index_mut.result.now here c.index_mut.ensures.value
    ∙ ap (λ h. Some (hand_of h)) (sym c.replace.ensures.value ∙ c.in-Carries.is) in (
      ap (λ hs. record w { hands = map hand_of hs })
          (set-twice p.hands.items k c.replace.new.dest (hand.Carries c.in-Carries.ready c.in-Carries.parcels))
          ∙ ap (λ hs. record w { hands = hs })
          (map-set_same hand_of p.hands.items k (hand.Carries c.in-Carries.ready c.in-Carries.parcels)
          c.index_mut.result.now (ap hand_of (sym c.in-Carries.is ∙ c.replace.ensures.value
          ∙ c.index_mut.ensures.value))),
      ((λ e. absurd cc), λ ne. with-one w k _ (run_by day plan k w) held),
    )
