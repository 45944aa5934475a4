use Rattle.std.proofs.Common.{◌≡◌, true, cond, length, map, None, Some, refl, rules, sym, ap, ◌∙◌}
use Rattle.std.specs.List.{list_all}
use Rattle.reg_base.specs.Footprint.{is_among}
use Rattle.reg_plan.specs.Plans.{inward}
use Rattle.reg_schedules.specs.Pool.{footprint_at, tail_in}
use Rattle.reg_schedules.specs.Docks.{names_needed}
use Rattle.reg_tasks.specs.Contexts.{the_day}
use Rattle.reg_tasks.specs.Parcels.{names_of}
use Rattle.reg_tasks.specs.Slots.{standing_in, is_there}
use Rattle.reg_facts.proofs.lemmas.Lists.{written_whole}
use Rattle.reg_tasks.proofs.lemmas.Placing.{ready_stands, all_there, taken_needed}
use Rattle.reg_tasks.proofs.slots.Slots.take.Goals as goal

pub of_needed-task-requires-clause-needed : goal.of_needed-task-requires-clause-needed
of_needed-task-requires-clause-needed g c =
    let context = c.args.self.now.context.now in
    let arrows = inward context.plan.arrows c.args.place in
    let touched = footprint_at (the_day context) c.args.place in
    let names = names_of c.in_ok-parcels.parcels.items in
    let passed : c.are_ready.result ≡ true = c.if-not-are_ready.false in
    let ready : list_all (λ name. is_there (standing_in context.plan.openings c.args.self.now.slots.items) name)
    (names_needed arrows touched) ≡ true =
    ap (λ ws. list_all (λ name. is_there (standing_in context.plan.openings c.args.self.now.slots.items) name)
    (names_needed ws touched)) (sym c.arrows_to.ensures)
    ∙ ap (λ ns. list_all (λ name. is_there (standing_in context.plan.openings c.args.self.now.slots.items) name)
    (names_needed c.arrows_to.result.now ns)) (sym c.touched_at-accounts.ensures.value)
    ∙ ap (λ os. list_all (λ name. is_there (standing_in os c.args.self.now.slots.items) name)
    (names_needed c.arrows_to.result.now c.touched_at-accounts.result.now)) (sym c.openings.ensures.value)
    ∙ ap (λ ss. list_all (λ name. is_there (standing_in c.openings.result.now ss) name)
    (names_needed c.arrows_to.result.now c.touched_at-accounts.result.now)) (sym c.deref.ensures.value)
    ∙ sym c.are_ready.ensures ∙ passed in
    let taken : map Some names ≡ map (standing_in context.plan.openings c.args.self.now.slots.items) touched =
    c.in_ok-parcels.ensures.names
    ∙ ap (λ os. map (standing_in os c.deref_mut.result.now) c.touched_at-accounts.result.now) c.openings-2.ensures.value
    ∙ ap (λ ss. map (standing_in context.plan.openings ss) c.touched_at-accounts.result.now) c.deref_mut.ensures.value
    ∙ ap (map (standing_in context.plan.openings c.args.self.now.slots.items)) c.touched_at-accounts.ensures.value in
    taken_needed arrows (standing_in context.plan.openings c.args.self.now.slots.items) touched names
    (ready_stands arrows (standing_in context.plan.openings c.args.self.now.slots.items) touched ready) taken

pub take_parcels-requires-clause-there : goal.take_parcels-requires-clause-there
take_parcels-requires-clause-there g c =
    let arrows = c.arrows_to.result.now in
    let touched = c.touched_at-accounts.result.now in
    let ready : list_all (λ name. is_there (standing_in c.openings-2.result.now c.deref_mut.result.now) name)
    (names_needed arrows touched) ≡ true =
    ap (λ os. list_all (λ name. is_there (standing_in os c.deref_mut.result.now) name) (names_needed arrows touched))
    (c.openings-2.ensures.value ∙ sym c.openings.ensures.value)
    ∙ ap (λ ss. list_all (λ name. is_there (standing_in c.openings.result.now ss) name) (names_needed arrows touched))
    (c.deref_mut.ensures.value ∙ sym c.deref.ensures.value)
    ∙ sym c.are_ready.ensures ∙ c.if-not-are_ready.false in
    let st = standing_in c.openings-2.result.now c.deref_mut.result.now in
    all_there st touched (λ a. (a, tail_in arrows a)) (ready_stands arrows st touched ready)

pub returns : goal.returns
returns g c =
    let context = c.args.self.now.context.now in
    let os = context.plan.openings in
    let touched = footprint_at (the_day context) c.args.place in
    let slots = c.args.self.now.slots in
    let size : slots.len ≡ length slots.items = search rules in
    record {
      context = refl;
      place = search rules;
      ready = search rules;
      taken = λ a.
          ap (λ ss. standing_in os ss a)
          (written_whole slots.items c.take_parcels.new.slots slots.len size (c.take_parcels.auto.slots
          ∙ ap length c.deref_mut.ensures.value))
          ∙ ap (λ ws. standing_in ws c.take_parcels.new.slots a) (sym c.openings-2.ensures.value)
          ∙ c.in_ok-parcels.ensures.left a
          ∙ ap (λ ns. cond (is_among ns a) None (standing_in c.openings-2.result.now c.deref_mut.result.now a))
          c.touched_at-accounts.ensures.value
          ∙ ap (λ ws. cond (is_among touched a) None (standing_in ws c.deref_mut.result.now a))
          c.openings-2.ensures.value
          ∙ ap (λ ss. cond (is_among touched a) None (standing_in os ss a)) c.deref_mut.ensures.value;
    }
