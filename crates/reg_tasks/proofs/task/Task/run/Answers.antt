use Rattle.std.proofs.Common.{◌≡◌, ap, sym, subst, ◌∙◌, length, take, drop, map, ◌++◌, rules, Some}
use Rattle.std.specs.List.{AllByRecursion}
use Rattle.reg_facts.proofs.lemmas.Lists.{written_whole}
use Rattle.reg_book.specs.Day.{DayValue, day_of}
use Rattle.reg_rules.specs.State.{State, numbers}
use Rattle.reg_schedules.specs.Pool.{footprint_at, run_at}
use Rattle.reg_tasks.specs.Names.{AreValues, AreNeeded, IsValue}
use Rattle.reg_tasks.specs.Parcels.{values_of, names_of}
use Rattle.reg_schedules.specs.World.{left_by}
use Rattle.reg_tasks.specs.Parcels.{parcels_of}
use Rattle.reg_tasks.proofs.lemmas.Values.{left-of}
use Rattle.reg_tasks.proofs.Running.{parcels_right, same_names, names_after, ran_named, each_right}
use Rattle.reg_schedules.proofs.lemmas.Ran.{IsRight}
use Rattle.reg_tasks.proofs.task.Task.run.Goals as goal

pub pack-parcels-requires-clause-right : goal.pack-parcels-requires-clause-right
pack-parcels-requires-clause-right g c =
    let size : c.unpack-own.result.0.len ≡ length c.unpack-own.result.0.items = search rules in
    let back : c.apply_at.new.own ≡ c.unpack-own.result.0.items =
    c.in_default-apply_at.ensures.err ∙ c.deref_mut.ensures.value in
    let values = written_whole c.unpack-own.result.0.items c.apply_at.new.own c.unpack-own.result.0.len size
    (ap length back) ∙ back ∙ c.unpack-own.ensures.own in
    subst (λ vs. AreValues g.N.Naming.day vs c.as_slice.result.now) (sym values)
    (subst (λ ts. AreValues g.N.Naming.day (values_of c.args.self.parcels.items) ts)
    (sym (c.as_slice.ensures.value ∙ c.unpack-own.ensures.afters)) (parcels_right c.args.self.parcels.items))

pub pack_after-parcels-requires-clause-right : goal.pack_after-parcels-requires-clause-right
pack_after-parcels-requires-clause-right g c =
    let right : (d : DayValue) → g.N.Naming.day ≡ Some d
    → IsRight d c.args.self.place (values_of c.args.self.parcels.items) c.apply_at.new.own c.in-Ok-apply_at.row =
    ran_named c.step_laws.ensures c.each_is_a_step.ensures c.value_is_last_touchers.ensures
    (day_of c.args.context.now.book.now c.args.context.now.rules.now c.args.context.now.batch.now) c.args.self.place
    c.args.self.parcels.items c.apply_at.new.own c.in-Ok-apply_at.row c.args.context.now.named c.args.self.complete
    (ap (run_at (day_of c.args.context.now.book.now c.args.context.now.rules.now c.args.context.now.batch.now)
    c.args.self.place) (sym (c.deref_mut.ensures.value ∙ c.unpack-own.ensures.own))
    ∙ c.in-Ok-apply_at.ensures.ok) in
    let touched : (d : DayValue) → g.N.Naming.day ≡ Some d → numbers (values_of c.args.self.parcels.items)
    ≡ footprint_at d c.args.self.place =
    λ d e. (c.fits.ensures.is_for c.if-not-fits.false).touched
    ∙ ap (λ (x : DayValue). footprint_at x c.args.self.place) (c.args.context.now.named d e) in
    let size : c.unpack-own.result.0.len ≡ length c.unpack-own.result.0.items = search rules in
    let whole : take c.unpack-own.result.0.len
    (c.apply_at.new.own ++ drop (length c.apply_at.new.own) c.unpack-own.result.0.items) ≡ c.apply_at.new.own =
    written_whole c.unpack-own.result.0.items c.apply_at.new.own c.unpack-own.result.0.len size (c.apply_at.auto.own
    ∙ ap length c.deref_mut.ensures.value) in
    subst (AllByRecursion (λ v. IsValue g.N.Naming.day v c.args.self.place)) (sym whole)
    (each_right g.N.Naming.day c.args.self.place (values_of c.args.self.parcels.items) c.apply_at.new.own
    c.in-Ok-apply_at.row c.each_footprint_is_sound.ensures right touched)

pub new-requires-clause-row : goal.new-requires-clause-row
new-requires-clause-row g c =
    let right : (d : DayValue) → g.N.Naming.day ≡ Some d
    → IsRight d c.args.self.place (values_of c.args.self.parcels.items) c.apply_at.new.own c.in-Ok-apply_at.row =
    ran_named c.step_laws.ensures c.each_is_a_step.ensures c.value_is_last_touchers.ensures
    (day_of c.args.context.now.book.now c.args.context.now.rules.now c.args.context.now.batch.now) c.args.self.place
    c.args.self.parcels.items c.apply_at.new.own c.in-Ok-apply_at.row c.args.context.now.named c.args.self.complete
    (ap (run_at (day_of c.args.context.now.book.now c.args.context.now.rules.now c.args.context.now.batch.now)
    c.args.self.place) (sym (c.deref_mut.ensures.value ∙ c.unpack-own.ensures.own))
    ∙ c.in-Ok-apply_at.ensures.ok) in
    λ d e. (right d e).row_is

pub new-requires-clause-left : goal.new-requires-clause-left
new-requires-clause-left g c =
    let right : (d : DayValue) → g.N.Naming.day ≡ Some d
    → IsRight d c.args.self.place (values_of c.args.self.parcels.items) c.apply_at.new.own c.in-Ok-apply_at.row =
    ran_named c.step_laws.ensures c.each_is_a_step.ensures c.value_is_last_touchers.ensures
    (day_of c.args.context.now.book.now c.args.context.now.rules.now c.args.context.now.batch.now) c.args.self.place
    c.args.self.parcels.items c.apply_at.new.own c.in-Ok-apply_at.row c.args.context.now.named c.args.self.complete
    (ap (run_at (day_of c.args.context.now.book.now c.args.context.now.rules.now c.args.context.now.batch.now)
    c.args.self.place) (sym (c.deref_mut.ensures.value ∙ c.unpack-own.ensures.own))
    ∙ c.in-Ok-apply_at.ensures.ok) in
    let touched : (d : DayValue) → g.N.Naming.day ≡ Some d → numbers (values_of c.args.self.parcels.items)
    ≡ footprint_at d c.args.self.place =
    λ d e. (c.fits.ensures.is_for c.if-not-fits.false).touched
    ∙ ap (λ (x : DayValue). footprint_at x c.args.self.place) (c.args.context.now.named d e) in
    let size : c.unpack-own.result.0.len ≡ length c.unpack-own.result.0.items = search rules in
    let whole : take c.unpack-own.result.0.len
    (c.apply_at.new.own ++ drop (length c.apply_at.new.own) c.unpack-own.result.0.items) ≡ c.apply_at.new.own =
    written_whole c.unpack-own.result.0.items c.apply_at.new.own c.unpack-own.result.0.len size (c.apply_at.auto.own
    ∙ ap length c.deref_mut.ensures.value) in
    λ d e.
    names_after c.pack_after-parcels.result.items c.args.self.place (c.pack_after-parcels.ensures.afters
    ∙ ap (map (λ v. c.args.self.place)) (sym c.pack_after-parcels.ensures.values))
    ∙ ap (λ (s : State). map (λ a. (a, c.args.self.place)) (numbers s)) (c.pack_after-parcels.ensures.values ∙ whole)
    ∙ ap (map (λ a. (a, c.args.self.place))) ((right d e).same_numbers ∙ touched d e)

pub invariant_of-result : goal.invariant_of-result
invariant_of-result g c =
    let size : c.unpack-own.result.0.len ≡ length c.unpack-own.result.0.items = search rules in
    let back : c.apply_at.new.own ≡ c.unpack-own.result.0.items =
    c.in_default-apply_at.ensures.err ∙ c.deref_mut.ensures.value in
    let values = written_whole c.unpack-own.result.0.items c.apply_at.new.own c.unpack-own.result.0.len size
    (ap length back) ∙ back ∙ c.unpack-own.ensures.own in
    let names : names_of c.pack-parcels.result.items ≡ names_of c.args.self.parcels.items =
    same_names c.pack-parcels.result.items c.args.self.parcels.items (c.pack-parcels.ensures.values ∙ values)
    (c.pack-parcels.ensures.afters ∙ c.as_slice.ensures.value ∙ c.unpack-own.ensures.afters) in
    record { complete = λ d e. subst (AreNeeded d c.args.self.place) (sym names) (c.args.self.complete d e) }

pub returns-clause-left : goal.returns-clause-left
returns-clause-left g c =
    let after = c.pack_after-parcels.ensures.afters
    ∙ ap (map (λ v. c.args.self.place)) (sym c.pack_after-parcels.ensures.values) in
    subst (λ ps. parcels_of ps.items ≡ left_by c.args.self.place (values_of ps.items)) (sym c.new.ensures.parcels)
    (left-of c.pack_after-parcels.result.items c.args.self.place after)
