use Rattle.std.proofs.Common.{◌≡◌, ◌<◌, length, map, Some, Ok, refl, sym, ap, ◌∙◌, rules}
use Rattle.std.specs.Prelude.{slice_set}
use Rattle.std.specs.VecDeque.{deque_len}
use Rattle.std.proofs.lemmas.List.{map-set, nil_from_length}
use Rattle.std.proofs.Math.Seq.{map-set_same}
use Rattle.reg_facts.proofs.lemmas.Lists.{slice_get-view}
use Rattle.reg_schedules.specs.World.{Holds, moved}
use Rattle.reg_tasks.specs.Tasks.{task_of}
use Rattle.reg_graph.specs.WorldParts.{hand_of, world_of}
use Rattle.reg_graph.proofs.PartFacts.{with-both}
use Rattle.reg_graph.proofs.world_parts.Parts.take_task.Goals as goal

pub returns-in-Some-clause-answer : goal.returns-in-Some-clause-answer
returns-in-Some-clause-answer g c =
    let p = c.args.self.now in
    let here : c.args.worker < length p.hands.items = search rules in
    let many : c.args.from < length p.lists.items = search rules in
    let hand = slice_get-view hand_of p.hands.items c.args.worker c.index.result.now here c.index.ensures in
    let list = slice_get-view (λ tasks. map task_of tasks.items) p.lists.items c.args.from c.index_mut.result.now many
    c.index_mut.ensures.value in
    with-both (world_of p) c.args.worker c.args.from _ _ (moved c.args.worker c.args.from (world_of p))
    (hand ∙ ap Some (c.if-not-is_empty.ensures.0 refl))
    (list ∙ ap (λ ts. Some (map task_of ts)) c.in-Some.ensures.items)
    ∙ ap (λ ls. Ok (record (world_of p) {
      lists = ls;
      hands = slice_set (world_of p).hands c.args.worker (Holds (task_of c.in-Some.task));
    }))
    (sym (map-set (λ tasks. map task_of tasks.items) p.lists.items c.args.from c.pop_front.new.self))
    ∙ ap (λ hs. Ok (record (world_of p) {
      lists = map (λ tasks. map task_of tasks.items) (slice_set p.lists.items c.args.from c.pop_front.new.self);
      hands = hs;
    })) (sym (map-set hand_of p.hands.items c.args.worker _))

pub returns-in-None-clause-answer : goal.returns-in-None-clause-answer
returns-in-None-clause-answer g c =
    let p = c.args.self.now in
    let here : c.args.worker < length p.hands.items = search rules in
    let many : c.args.from < length p.lists.items = search rules in
    let size : length c.index_mut.result.now.items ≡ deque_len c.index_mut.result.now = search rules in
    let none = nil_from_length c.index_mut.result.now.items (size ∙ c.in-None.ensures.cases.0) in
    let hand = slice_get-view hand_of p.hands.items c.args.worker c.index.result.now here c.index.ensures in
    let list = slice_get-view (λ tasks. map task_of tasks.items) p.lists.items c.args.from c.index_mut.result.now many
    c.index_mut.ensures.value in (
      ap (λ ls. record (world_of p) { lists = ls })
          (map-set_same (λ tasks. map task_of tasks.items) p.lists.items c.args.from c.pop_front.new.self
          c.index_mut.result.now
          (ap (map task_of) (sym c.in-None.ensures.items)
          ∙ ap (λ tasks. map task_of tasks.items) c.index_mut.ensures.value)),
      with-both (world_of p) c.args.worker c.args.from _ _ (moved c.args.worker c.args.from (world_of p))
          (hand ∙ ap Some (c.if-not-is_empty.ensures.0 refl)) (list ∙ ap (λ ts. Some (map task_of ts)) none),
    )
