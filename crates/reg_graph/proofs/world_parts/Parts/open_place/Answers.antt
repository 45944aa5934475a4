use Rattle.std.proofs.Common.{◌≡◌, ℕ, suc, ◌+◌, cond, eqb, List, [], ◌∷◌, length, map, Some, None, vec_capacity, sym}
use Rattle.std.proofs.Common.{ap, subst, ◌∙◌, arith, rules}
use Rattle.std.specs.Prelude.{slice_set}
use Rattle.std.proofs.lemmas.Bool.{eq-eqb, ne_eqb}
use Rattle.std.proofs.lemmas.List.{map-set, map-append, length-map}
use Rattle.reg_facts.proofs.lemmas.Lists.{slice_get-view}
use Rattle.reg_book.specs.Day.{day_of}
use Rattle.reg_schedules.specs.Docks.{TaskValue, complete}
use Rattle.reg_schedules.specs.World.{opened_at, dealt, before_some}
use Rattle.reg_tasks.specs.Tasks.{task_of}
use Rattle.reg_graph.specs.WorldParts.{DocksHaveRoom, task_lists}
use Rattle.reg_graph.proofs.Dealing.{deal-one}
use Rattle.reg_graph.proofs.DockRoom.{room-more}
use Rattle.reg_graph.proofs.world_parts.Parts.open_place.Goals as goal
use Rattle.reg_graph.proofs.world_parts.Parts.open_place.Goals.{After-len}
use Rattle.reg_graph.proofs.world_parts.Parts.open_place.Given.{Over}

-- the task of the place is the next that is dealt
dealt-next : (g : Over) (c : After-len g) (next : ℕ) (more : List TaskValue)
    → next ≡ cond (eqb (suc c.args.worker) (length (task_lists c.args.self.now.lists.items))) 0 (suc c.args.worker)
    → dealt next more (task_lists (slice_set c.args.self.now.lists.items c.args.worker c.push_back.new.self))
    ≡ dealt c.args.worker (before_some
    (complete (day_of c.args.context.now.book.now c.args.context.now.rules.now c.args.context.now.batch.now)
    c.args.context.now.plan c.args.place
    (opened_at (day_of c.args.context.now.book.now c.args.context.now.rules.now c.args.context.now.batch.now)
    c.args.context.now.plan c.args.place)) more) (task_lists c.args.self.now.lists.items)
dealt-next g c next more turn =
    let day = day_of c.args.context.now.book.now c.args.context.now.rules.now c.args.context.now.batch.now in
    let lists = c.args.self.now.lists.items in
    let list = c.index_mut.result.now in
    let done = ap (complete day c.args.context.now.plan c.args.place) (sym c.in_ok-came.ensures.came)
    ∙ c.in-Ok.ensures.task_is.complete in
    let pushed = ap (map task_of) c.in_ok-push_back-in-Ok.ensures.items
    ∙ map-append task_of list.items (c.in-Ok.task ∷ []) in
    ap (dealt next more) (map-set (λ tasks. map task_of tasks.items) lists c.args.worker c.push_back.new.self
    ∙ ap (slice_set (task_lists lists) c.args.worker) pushed)
    ∙ deal-one c.args.worker next (task_of c.in-Ok.task) more (task_lists lists) (map task_of list.items)
    (slice_get-view (λ tasks. map task_of tasks.items) lists c.args.worker list c.requires.there
    c.index_mut.ensures.value)
    turn
    ∙ ap (λ o. dealt c.args.worker (before_some o more) (task_lists lists)) (sym done)

pub returns-then-next-len-clause-lists : goal.returns-then-next-len-clause-lists
returns-then-next-len-clause-lists g c = λ more.
    let size : c.args.self.now.lists.len ≡ length c.args.self.now.lists.items = search rules in
    let last : suc c.args.worker ≡ length (task_lists c.args.self.now.lists.items) =
    omega (
      arith,
      c.if-next-len.true,
      c.len.ensures,
      size,
      length-map c.args.self.now.lists.items (λ tasks. map task_of tasks.items),
    ) in
    let turn = eq-eqb (suc c.args.worker) (length (task_lists c.args.self.now.lists.items)) last in
    dealt-next g (goal.at.returns-then-next-len-clause-lists g c).After-len 0 more
    (sym (ap (λ b. cond b 0 (suc c.args.worker)) turn))

pub returns-else-next-len-clause-lists : goal.returns-else-next-len-clause-lists
returns-else-next-len-clause-lists g c = λ more.
    let size : c.args.self.now.lists.len ≡ length c.args.self.now.lists.items = search rules in
    let next : c.args.worker + 1 ≡ suc c.args.worker = omega arith in
    let turn = ne_eqb (suc c.args.worker) (length (task_lists c.args.self.now.lists.items))
    (λ e. c.if-next-len.false
    (omega (
      arith,
      e,
      c.len.ensures,
      size,
      length-map c.args.self.now.lists.items (λ tasks. map task_of tasks.items),
    ))) in
    dealt-next g (goal.at.returns-else-next-len-clause-lists g c).After-len (c.args.worker + 1) more
    (next ∙ ap (λ b. cond b 0 (suc c.args.worker)) (sym turn))

pub returns-then-next-len-clause-rooms : goal.returns-then-next-len-clause-rooms
returns-then-next-len-clause-rooms g c =
    let day = day_of c.args.context.now.book.now c.args.context.now.rules.now c.args.context.now.batch.now in
    subst (DocksHaveRoom day) (sym c.in_ok-push-in-Ok.ensures.items)
    (room-more day c.args.self.now.docks.items c.args.place None c.requires.next c.requires.rooms tt)

pub returns-else-next-len-clause-rooms : goal.returns-else-next-len-clause-rooms
returns-else-next-len-clause-rooms g c =
    let day = day_of c.args.context.now.book.now c.args.context.now.rules.now c.args.context.now.batch.now in
    subst (DocksHaveRoom day) (sym c.in_ok-push-in-Ok.ensures.items)
    (room-more day c.args.self.now.docks.items c.args.place None c.requires.next c.requires.rooms tt)

pub returns-in_ok-push-in-Err-clause-rooms : goal.returns-in_ok-push-in-Err-clause-rooms
returns-in_ok-push-in-Err-clause-rooms g c =
    let day = day_of c.args.context.now.book.now c.args.context.now.rules.now c.args.context.now.batch.now in
    subst (DocksHaveRoom day) (sym c.in_ok-push-in-Err.ensures.items)
    (room-more day c.args.self.now.docks.items c.args.place (Some c.in-Err.came) c.requires.next c.requires.rooms
    (ap vec_capacity c.in-Err.ensures.back ∙ c.in_ok-came.ensures.room))
