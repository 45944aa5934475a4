use Rattle.std.proofs.Common.{◌≡◌, suc, ◌+◌, ◌-◌, ◌<◌, ◌≤◌, length, map, take, sym, subst, ◌∙◌, arith, rules}
use Rattle.std.specs.Option.{option_map}
use Rattle.std.proofs.lemmas.List.{length-map}
use Rattle.reg_facts.proofs.lemmas.Lists.{slice_get-view}
use Rattle.reg_schedules.specs.World.{is_in_dock}
use Rattle.reg_facts.specs.Counting.{total}
use Rattle.reg_tasks.specs.Parcels.{parcels_of}
use Rattle.reg_tasks.specs.Tasks.{task_of}
use Rattle.reg_graph.specs.WorldParts.{hand_of, task_lists, world_of}
use Rattle.reg_schedules.proofs.lemmas.WorldCounts.{in_list, in_hand_once}
use Rattle.reg_graph.proofs.WorldPlaces.{none-yet, none-at-all, dock-there, not-listed, is-listed, not-held, done-then}
use Rattle.reg_graph.proofs.WorldPlaces.{in-list-there, in-hand-there}
use Rattle.reg_graph.proofs.world.World.whereabouts.Goals as goal
use Rattle.reg_graph.proofs.world.World.whereabouts.Goals.{After-is_some}
use Rattle.reg_graph.proofs.world.World.whereabouts.Given.{Over}

-- what was read of the dock
read : (g : Over) (c : After-is_some g) → is_in_dock (world_of c.args.self.now.parts) c.args.place ≡ c.is_some.result
read g c =
    let p = c.args.self.now.parts in
    let here : c.args.place - 1 < length p.docks.items =
    omega (arith, c.requires.place.0, c.requires.place.1, c.knows.ensures.docks) in
    dock-there (λ came. parcels_of came.items) (world_of p) c.args.place c.index.result.now c.requires.place.0
    (slice_get-view (option_map (λ came. parcels_of came.items)) p.docks.items (c.args.place - 1) c.index.result.now
    here c.index.ensures)
    ∙ sym c.is_some.ensures

pub returns-then-is_some : goal.returns-then-is_some
returns-then-is_some g c = read g (goal.at.returns-then-is_some g c).After-is_some ∙ c.if-is_some.true

pub returns-then-is_listed : goal.returns-then-is_listed
returns-then-is_listed g c =
    let p = c.args.self.now.parts in
    let list = c.index-in-loop-worker.result.now in
    let size : p.hands.len ≡ length p.hands.items = search rules in
    let here : c.loop-worker.worker < length p.lists.items =
    omega (arith, c.loop-worker-test.true, c.len-worker-end.ensures, size, p.workers) in
    in-list-there (world_of p) c.args.place c.loop-worker.worker (map task_of list.items)
    (slice_get-view (λ tasks. map task_of tasks.items) p.lists.items c.loop-worker.worker list here
    c.index-in-loop-worker.ensures)
    (is-listed c.args.place list.items (sym c.is_listed.ensures ∙ c.if-is_listed.true))

pub returns-then-is_held : goal.returns-then-is_held
returns-then-is_held g c =
    let p = c.args.self.now.parts in
    let hand = c.index-in-loop-worker-2.result.now in
    let size : p.hands.len ≡ length p.hands.items = search rules in
    let here : c.loop-worker.worker < length p.hands.items =
    omega (arith, c.loop-worker-test.true, c.len-worker-end.ensures, size) in
    in-hand-there (world_of p) c.args.place c.loop-worker.worker (hand_of hand)
    (slice_get-view hand_of p.hands.items c.loop-worker.worker hand here c.index-in-loop-worker-2.ensures)
    (sym c.is_held.ensures ∙ c.if-is_held.true)

pub loop-worker-preserved : goal.loop-worker-preserved
loop-worker-preserved g c =
    let p = c.args.self.now.parts in
    let q = c.args.place in
    let k = c.loop-worker.worker in
    let list = c.index-in-loop-worker.result.now in
    let hand = c.index-in-loop-worker-2.result.now in
    let size : p.hands.len ≡ length p.hands.items = search rules in
    let here : k < length p.hands.items = omega (arith, c.loop-worker-test.true, c.len-worker-end.ensures, size) in
    let there : k < length p.lists.items = omega (arith, here, p.workers) in
    let next : suc k ≡ k + 1 = omega arith in
    record {
      listed = subst (λ j. total (total (in_list q)) (take j (task_lists p.lists.items)) ≡ 0) next
          (none-yet (total (in_list q)) (task_lists p.lists.items) k (map task_of list.items)
          (slice_get-view (λ tasks. map task_of tasks.items) p.lists.items k list there c.index-in-loop-worker.ensures)
          (not-listed q list.items (sym c.if-is_listed.ensures)) c.loop-worker.invariant.listed);
      held = subst (λ j. total (in_hand_once q) (take j (map hand_of p.hands.items)) ≡ 0) next
          (none-yet (in_hand_once q) (map hand_of p.hands.items) k (hand_of hand)
          (slice_get-view hand_of p.hands.items k hand here c.index-in-loop-worker-2.ensures)
          (not-held q (hand_of hand) (sym c.if-is_held.ensures)) c.loop-worker.invariant.held);
    }

pub returns : goal.returns
returns g c =
    let p = c.args.self.now.parts in
    let q = c.args.place in
    let k = c.loop-worker.worker in
    let size : p.hands.len ≡ length p.hands.items = search rules in
    let hands : length (map hand_of p.hands.items) ≤ k =
    omega (arith, c.loop-worker-test.false, c.len-worker-end.ensures, size, length-map p.hands.items hand_of) in
    let lists : length (task_lists p.lists.items) ≤ k =
    omega (
      arith,
      hands,
      p.workers,
      length-map p.hands.items hand_of,
      length-map p.lists.items (λ tasks. map task_of tasks.items),
    ) in
    done-then (world_of p) q (c.knows.ensures.once q c.requires.place.0 c.requires.place.1)
    (read g (goal.at.returns g c).After-is_some ∙ c.is_some.ensures ∙ sym c.if-is_some.ensures)
    (none-at-all (total (in_list q)) (task_lists p.lists.items) k lists c.loop-worker.invariant.listed)
    (none-at-all (in_hand_once q) (map hand_of p.hands.items) k hands c.loop-worker.invariant.held)
