use Rattle.std.proofs.Common.{◌≡◌, ◌<◌, ◌≤◌, [], ◌∷◌, length, map, Some, None, Ok, sym, subst, ap, ◌∙◌, rules, arith}
use Rattle.std.specs.Prelude.{slice_set}
use Rattle.std.specs.Option.{option_map}
use Rattle.std.specs.VecDeque.{deque_len, deque_capacity}
use Rattle.std.proofs.lemmas.List.{map-set, map-append, length-map}
use Rattle.std.proofs.Math.Seq.{map-set_same}
use Rattle.reg_facts.proofs.lemmas.Lists.{slice_get-view}
use Rattle.reg_graph.specs.declared.hand.Hand.TheVariants as hand
use Rattle.reg_schedules.specs.World.{Carries, pushed_by}
use Rattle.reg_tasks.specs.Parcels.{parcels_of}
use Rattle.reg_tasks.specs.Tasks.{task_of}
use Rattle.reg_graph.specs.WorldParts.{hand_of, world_of}
use Rattle.reg_graph.proofs.PartFacts.{with-one, list-there}
use Rattle.reg_graph.proofs.world_parts.Parts.push_task.Goals as goal

pub returns-in_default-clause-answer : goal.returns-in_default-clause-answer
returns-in_default-clause-answer g c =
    let p = c.args.self.now in
    let here : c.args.worker < length p.hands.items = search rules in
    let held = slice_get-view hand_of p.hands.items c.args.worker c.index_mut.result.now here
    c.index_mut.ensures.value in (
      ap (λ hs. record (world_of p) { hands = hs })
          (map-set_same hand_of p.hands.items c.args.worker c.index_mut.result.now c.index_mut.result.now
          (ap hand_of c.index_mut.ensures.value)),
      with-one (world_of p) c.args.worker _ (pushed_by c.args.worker (world_of p))
          (held ∙ ap (λ h. Some (hand_of h)) c.in_default.is),
    )

pub returns-in_default-take-clause-answer : goal.returns-in_default-take-clause-answer
returns-in_default-take-clause-answer g c =
    let p = c.args.self.now in
    let here : c.args.worker < length p.hands.items = search rules in
    let none = sym c.in_default-take.ensures.value in
    let is = c.in-Carries.is ∙ ap (λ r. hand.Carries r c.in-Carries.field-1) none in
    let held = slice_get-view hand_of p.hands.items c.args.worker c.index_mut.result.now here
    c.index_mut.ensures.value in (
      ap (λ hs. record (world_of p) { hands = hs })
          (map-set_same hand_of p.hands.items c.args.worker (hand.Carries c.take.new.self c.in-Carries.field-1)
          c.index_mut.result.now
          (ap (λ r. hand_of (hand.Carries r c.in-Carries.field-1)) c.in_default-take.ensures.after ∙ ap hand_of (sym is)
          ∙ ap hand_of c.index_mut.ensures.value)),
      with-one (world_of p) c.args.worker _ (pushed_by c.args.worker (world_of p))
          (held ∙ ap (λ h. Some (hand_of h)) is),
    )

pub push_back_reserved-requires : goal.push_back_reserved-requires
push_back_reserved-requires g c =
    let p = c.args.self.now in
    let list = c.index_mut-2.result.now in
    let here : c.args.worker < length p.hands.items = search rules in
    let many : c.args.worker < length p.lists.items = omega (arith, here, p.workers) in
    let is = c.in-Carries.is ∙ ap (λ r. hand.Carries r c.in-Carries.field-1) (sym c.in-Some.ensures.value) in
    let held = slice_get-view hand_of p.hands.items c.args.worker c.index_mut.result.now here c.index_mut.ensures.value
    ∙ ap (λ h. Some (hand_of h)) is in
    let listed = slice_get-view (λ tasks. map task_of tasks.items) p.lists.items c.args.worker list many
    c.index_mut-2.ensures.value in
    let size : length list.items ≡ deque_len list = search rules in
    let room : length p.rows.items ≤ deque_capacity list =
    subst (λ l. length p.rows.items ≤ deque_capacity l) (sym c.index_mut-2.ensures.value)
    (p.list_room c.args.worker list many) in
    omega (arith, c.requires.room _ _ _ held listed, length-map list.items task_of, size, room)

pub returns-clause-answer : goal.returns-clause-answer
returns-clause-answer g c =
    let p = c.args.self.now in
    let list = c.index_mut-2.result.now in
    let here : c.args.worker < length p.hands.items = search rules in
    let many : c.args.worker < length p.lists.items = omega (arith, here, p.workers) in
    let is = c.in-Carries.is ∙ ap (λ r. hand.Carries r c.in-Carries.field-1) (sym c.in-Some.ensures.value) in
    let held = slice_get-view hand_of p.hands.items c.args.worker c.index_mut.result.now here c.index_mut.ensures.value
    ∙ ap (λ h. Some (hand_of h)) is in
    let listed = slice_get-view (λ tasks. map task_of tasks.items) p.lists.items c.args.worker list many
    c.index_mut-2.ensures.value in
    let more = ap (map task_of) c.push_back_reserved.ensures.items
    ∙ map-append task_of list.items (c.in-Some.task ∷ []) in
    with-one (world_of p) c.args.worker _ (pushed_by c.args.worker (world_of p)) held
    ∙ ap (λ ls. Ok (record (world_of p) {
      lists = ls;
      hands = slice_set (world_of p).hands c.args.worker (Carries None (parcels_of c.in-Carries.field-1.items));
    }))
    (list-there (world_of p) c.args.worker (task_of c.in-Some.task) (map task_of list.items) listed
    ∙ ap (slice_set (world_of p).lists c.args.worker) (sym more)
    ∙ sym (map-set (λ tasks. map task_of tasks.items) p.lists.items c.args.worker c.push_back_reserved.new.self))
    ∙ ap (λ hs. Ok (record (world_of p) {
      lists = map (λ tasks. map task_of tasks.items)
          (slice_set p.lists.items c.args.worker c.push_back_reserved.new.self);
      hands = hs;
    }))
    (ap (λ r. slice_set (world_of p).hands c.args.worker
    (Carries (option_map task_of r) (parcels_of c.in-Carries.field-1.items))) (sym c.in-Some.ensures.after)
    ∙ sym (map-set hand_of p.hands.items c.args.worker (hand.Carries c.take.new.self c.in-Carries.field-1)))
