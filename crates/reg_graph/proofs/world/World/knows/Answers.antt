use Rattle.std.proofs.Common.{◌≡◌, ◌∷◌, length, Some, None, arith, ap, ◌∙◌}
use Rattle.std.proofs.lemmas.List.{length-map}
use Rattle.std.proofs.Props.{props}
use mathlib.Core.Logic.{∥∥₁_elim}
use Rattle.reg_book.specs.Day.{day_of}
use Rattle.reg_schedules.specs.World.{Holds, Carries}
use Rattle.reg_graph.specs.WorldParts.{world_of}
use Rattle.reg_schedules.proofs.lemmas.WorldFits.{IsHand, all-get}
use Rattle.reg_schedules.proofs.lemmas.WorldEnds.{whole-after}
use Rattle.reg_schedules.proofs.lemmas.WorldRoom.{list-room, dock-room, sent-after}
use Rattle.reg_graph.proofs.PartFacts.{with-first}
use Rattle.reg_graph.proofs.world.World.knows.Goals as goal

pub returns-clause-rows : goal.returns-clause-rows
returns-clause-rows g c =
    let day = day_of c.args.self.now.context.now.book.now c.args.self.now.context.now.rules.now
    c.args.self.now.context.now.batch.now in
    let plan = c.args.self.now.context.now.plan in
    let w = world_of c.args.self.now.parts in
    ∥∥₁_elim c.args.self.now.context.now.planned (Prim.hlevel props)
    (λ made. ∥∥₁_elim c.args.self.now.reached (Prim.hlevel props) (λ r.
    let whole = whole-after c.step_laws.ensures c.each_footprint_is_sound.ensures c.tails_are_last_touchers.ensures
    c.last_toucher_is_last.ensures day plan made r.workers r.some r.events w r.after in
    whole.stands.rows))

pub returns-clause-docks : goal.returns-clause-docks
returns-clause-docks g c =
    let day = day_of c.args.self.now.context.now.book.now c.args.self.now.context.now.rules.now
    c.args.self.now.context.now.batch.now in
    let plan = c.args.self.now.context.now.plan in
    let w = world_of c.args.self.now.parts in
    let many : length w.docks ≡ length c.args.self.now.parts.docks.items =
    length-map c.args.self.now.parts.docks.items _ in
    ∥∥₁_elim c.args.self.now.context.now.planned (Prim.hlevel props)
    (λ made. ∥∥₁_elim c.args.self.now.reached (Prim.hlevel props) (λ r.
    let whole = whole-after c.step_laws.ensures c.each_footprint_is_sound.ensures c.tails_are_last_touchers.ensures
    c.last_toucher_is_last.ensures day plan made r.workers r.some r.events w r.after in
    omega (arith, many, whole.stands.docks)))

pub returns-clause-few : goal.returns-clause-few
returns-clause-few g c =
    let day = day_of c.args.self.now.context.now.book.now c.args.self.now.context.now.rules.now
    c.args.self.now.context.now.batch.now in
    let plan = c.args.self.now.context.now.plan in
    let w = world_of c.args.self.now.parts in
    let many : length w.hands ≡ length c.args.self.now.parts.hands.items =
    length-map c.args.self.now.parts.hands.items _ in
    ∥∥₁_elim c.args.self.now.context.now.planned (Prim.hlevel props)
    (λ made. ∥∥₁_elim c.args.self.now.reached (Prim.hlevel props) (λ r.
    let whole = whole-after c.step_laws.ensures c.each_footprint_is_sound.ensures c.tails_are_last_touchers.ensures
    c.last_toucher_is_last.ensures day plan made r.workers r.some r.events w r.after in
    omega (arith, many, whole.stands.hands, r.few)))

pub returns-clause-once : goal.returns-clause-once
returns-clause-once g c =
    let day = day_of c.args.self.now.context.now.book.now c.args.self.now.context.now.rules.now
    c.args.self.now.context.now.batch.now in
    let plan = c.args.self.now.context.now.plan in
    let w = world_of c.args.self.now.parts in
    λ place low high.
    ∥∥₁_elim c.args.self.now.context.now.planned (Prim.hlevel props)
    (λ made. ∥∥₁_elim c.args.self.now.reached (Prim.hlevel props) (λ r.
    let whole = whole-after c.step_laws.ensures c.each_footprint_is_sound.ensures c.tails_are_last_touchers.ensures
    c.last_toucher_is_last.ensures day plan made r.workers r.some r.events w r.after in
    whole.stands.once place low high))

pub returns-clause-list_room : goal.returns-clause-list_room
returns-clause-list_room g c =
    let day = day_of c.args.self.now.context.now.book.now c.args.self.now.context.now.rules.now
    c.args.self.now.context.now.batch.now in
    let plan = c.args.self.now.context.now.plan in
    let w = world_of c.args.self.now.parts in
    λ worker task parcels tasks h l.
    ∥∥₁_elim c.args.self.now.context.now.planned (Prim.hlevel props)
    (λ made. ∥∥₁_elim c.args.self.now.reached (Prim.hlevel props) (λ r.
    let whole = whole-after c.step_laws.ensures c.each_footprint_is_sound.ensures c.tails_are_last_touchers.ensures
    c.last_toucher_is_last.ensures day plan made r.workers r.some r.events w r.after in
    omega (
      arith,
      whole.stands.rows,
      list-room c.step_laws.ensures c.each_footprint_is_sound.ensures c.tails_are_last_touchers.ensures
          c.last_toucher_is_last.ensures day plan made r.workers w whole worker worker task parcels tasks h l,
    )))

pub returns-clause-held : goal.returns-clause-held
returns-clause-held g c =
    let day = day_of c.args.self.now.context.now.book.now c.args.self.now.context.now.rules.now
    c.args.self.now.context.now.batch.now in
    let plan = c.args.self.now.context.now.plan in
    let w = world_of c.args.self.now.parts in
    λ worker task h.
    ∥∥₁_elim c.args.self.now.context.now.planned (Prim.hlevel props)
    (λ made. ∥∥₁_elim c.args.self.now.reached (Prim.hlevel props) (λ r.
    let whole = whole-after c.step_laws.ensures c.each_footprint_is_sound.ensures c.tails_are_last_touchers.ensures
    c.last_toucher_is_last.ensures day plan made r.workers r.some r.events w r.after in
    let is = all-get (IsHand c.tails_are_last_touchers.ensures c.last_toucher_is_last.ensures day plan made) w.hands
    worker (Holds task) whole.fits.hands h in
    (is.low, is.high)))

pub returns-clause-sent : goal.returns-clause-sent
returns-clause-sent g c =
    let day = day_of c.args.self.now.context.now.book.now c.args.self.now.context.now.rules.now
    c.args.self.now.context.now.batch.now in
    let plan = c.args.self.now.context.now.plan in
    let w = world_of c.args.self.now.parts in
    λ worker parcels h p ps e.
    ∥∥₁_elim c.args.self.now.context.now.planned (Prim.hlevel props)
    (λ made. ∥∥₁_elim c.args.self.now.reached (Prim.hlevel props) (λ r.
    let whole = whole-after c.step_laws.ensures c.each_footprint_is_sound.ensures c.tails_are_last_touchers.ensures
    c.last_toucher_is_last.ensures day plan made r.workers r.some r.events w r.after in
    let is = all-get (IsHand c.tails_are_last_touchers.ensures c.last_toucher_is_last.ensures day plan made) w.hands
    worker (Carries None (p ∷ ps)) whole.fits.hands (h ∙ ap (λ qs. Some (Carries None qs)) e) in
    sent-after c.step_laws.ensures c.each_footprint_is_sound.ensures c.tails_are_last_touchers.ensures
    c.last_toucher_is_last.ensures day plan made p is.0))

pub returns-clause-dock_room : goal.returns-clause-dock_room
returns-clause-dock_room g c =
    let day = day_of c.args.self.now.context.now.book.now c.args.self.now.context.now.rules.now
    c.args.self.now.context.now.batch.now in
    let plan = c.args.self.now.context.now.plan in
    let w = world_of c.args.self.now.parts in
    λ worker parcels h place came head there.
    ∥∥₁_elim c.args.self.now.context.now.planned (Prim.hlevel props)
    (λ made. ∥∥₁_elim c.args.self.now.reached (Prim.hlevel props) (λ r.
    let whole = whole-after c.step_laws.ensures c.each_footprint_is_sound.ensures c.tails_are_last_touchers.ensures
    c.last_toucher_is_last.ensures day plan made r.workers r.some r.events w r.after in
    with-first plan parcels place _ head (λ p ps e first.
    dock-room c.step_laws.ensures c.each_footprint_is_sound.ensures c.tails_are_last_touchers.ensures
    c.last_toucher_is_last.ensures day plan made r.workers w whole worker p ps place came
    (h ∙ ap (λ qs. Some (Carries None qs)) e) first there)))
