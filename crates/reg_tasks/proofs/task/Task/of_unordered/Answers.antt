use Rattle.std.proofs.Common.{◌≡◌, Some, ap, refl, subst, sym, ◌∙◌, length, rules}
use Rattle.std.specs.Prelude.{nat_eq, IsPermutation}
use Rattle.std.specs.List.{IsDistinct}
use Rattle.std.proofs.lemmas.List.Sorted.{length_permutation, IsPermutation-map}
use Rattle.reg_facts.proofs.lemmas.Lists.{written_whole}
use Rattle.reg_plan.specs.Plans.{inward}
use Rattle.reg_book.specs.Day.{day_of}
use Rattle.reg_schedules.specs.Pool.{footprint_at}
use Rattle.reg_schedules.specs.Docks.{names_needed}
use Rattle.reg_tasks.specs.Names.{has_names}
use Rattle.reg_tasks.specs.Parcels.{names_of, parcels_of}
use Rattle.reg_schedules.proofs.lemmas.Known.{footprint_distinct}
use Rattle.reg_tasks.proofs.Complete.{complete_from}
use Rattle.reg_schedules.proofs.lemmas.WorldFits.{names_are}
use Rattle.reg_tasks.proofs.Assembled.{names-are, complete-of}
use Rattle.reg_tasks.proofs.task.Task.of_unordered.Goals as goal

pub put_in_order-requires-clause-needed : goal.put_in_order-requires-clause-needed
put_in_order-requires-clause-needed g c =
    ap (λ ps. has_names (names_of ps) (names_needed c.arrows_to.result.now c.touched_at.result.now))
    c.deref_mut.ensures.value
    ∙ ap (λ ws. has_names (names_of c.args.parcels.items) (names_needed ws c.touched_at.result.now)) c.arrows_to.ensures
    ∙ ap (λ ns. has_names (names_of c.args.parcels.items)
    (names_needed (inward c.args.context.now.plan.arrows c.args.place) ns)) c.touched_at.ensures.value
    ∙ c.requires.needed

pub put_in_order-requires-clause-distinct : goal.put_in_order-requires-clause-distinct
put_in_order-requires-clause-distinct g c =
    subst (IsDistinct nat_eq) (sym c.touched_at.ensures.value)
    (footprint_distinct c.each_footprint_is_sound.ensures
    (day_of c.args.context.now.book.now c.args.context.now.rules.now c.args.context.now.batch.now) c.args.place)

pub invariant_of-result : goal.invariant_of-result
invariant_of-result g c =
    let size : c.args.parcels.len ≡ length c.args.parcels.items = search rules in
    let kept : length c.put_in_order.new.parcels ≡ length c.args.parcels.items =
    length_permutation c.deref_mut.result.now c.put_in_order.new.parcels c.put_in_order.ensures.permutation
    ∙ ap length c.deref_mut.ensures.value in
    record {
      complete = λ d e.
          complete_from c.tails_are_last_touchers.ensures c.last_toucher_is_last.ensures
          (day_of c.args.context.now.book.now c.args.context.now.rules.now c.args.context.now.batch.now)
          c.args.context.now.plan
          c.args.context.now.planned c.args.place _ c.requires.place
          (ap names_of (written_whole c.args.parcels.items c.put_in_order.new.parcels c.args.parcels.len size kept)
          ∙ c.put_in_order.ensures.names
          ∙ ap (λ ws. names_needed ws c.touched_at.result.now) c.arrows_to.ensures
          ∙ ap (names_needed (inward c.args.context.now.plan.arrows c.args.place)) c.touched_at.ensures.value)
          d (c.args.context.now.named d e);
    }

pub returns : goal.returns
returns g c =
    let day = day_of c.args.context.now.book.now c.args.context.now.rules.now c.args.context.now.batch.now in
    let plan = c.args.context.now.plan in
    let size : c.args.parcels.len ≡ length c.args.parcels.items = search rules in
    let kept : length c.put_in_order.new.parcels ≡ length c.args.parcels.items =
    length_permutation c.deref_mut.result.now c.put_in_order.new.parcels c.put_in_order.ensures.permutation
    ∙ ap length c.deref_mut.ensures.value in
    let whole = written_whole c.args.parcels.items c.put_in_order.new.parcels c.args.parcels.len size kept in
    let order : IsPermutation c.args.parcels.items c.put_in_order.new.parcels =
    subst (λ ps. IsPermutation ps c.put_in_order.new.parcels) c.deref_mut.ensures.value
    c.put_in_order.ensures.permutation in
    let names : names_are (parcels_of c.put_in_order.new.parcels)
    ≡ names_needed (inward plan.arrows c.args.place) (footprint_at day c.args.place)
    = names-are c.put_in_order.new.parcels ∙ c.put_in_order.ensures.names
    ∙ ap (λ ws. names_needed ws c.touched_at.result.now) c.arrows_to.ensures
    ∙ ap (names_needed (inward plan.arrows c.args.place)) c.touched_at.ensures.value in
    record {
      place = refl;
      parcels = subst (IsPermutation c.args.parcels.items) (sym whole) order;
      complete =
          complete-of day plan c.args.place (parcels_of c.args.parcels.items) (parcels_of c.put_in_order.new.parcels)
          (IsPermutation-map _ c.args.parcels.items c.put_in_order.new.parcels order)
          (footprint_distinct c.each_footprint_is_sound.ensures day c.args.place) names
          ∙ ap (λ ps. Some (record { place = c.args.place; parcels = parcels_of ps })) (sym whole);
    }
