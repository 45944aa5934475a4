use Rattle.std.proofs.Common.{◌≡◌, ◌++◌, ◌∷◌, ◌+◌, [], take, subst, sym, ap, ◌∙◌, arith, rules}
use Rattle.std.proofs.lemmas.List.{take_more, take_all, map-append}
use Rattle.reg_plan.specs.Orders.{first_order_fault}
use Rattle.reg_tasks.specs.Contexts.{the_day}
use Rattle.reg_tasks.specs.Gathering.{places_of}
use Rattle.reg_tasks.specs.Slots.{StandAfter}
use Rattle.reg_tasks.specs.Standing.{stands}
use Rattle.reg_tasks.proofs.lemmas.OrderSteps.{place_at, is_ready_at, standing_more}
use Rattle.reg_tasks.proofs.order.run_places.Goals as goal

pub run_place-requires-clause-place : goal.run_place-requires-clause-place
run_place-requires-clause-place g c =
    let context = c.loop-place.slots.context.now in
    place_at c.tails_are_last_touchers.ensures c.last_toucher_is_last.ensures
    (the_day context) context.plan context.planned c.args.order.now c.loop-place.place-index c.loop-place-test.true
    (ap (λ x. first_order_fault x.plan c.args.order.now) c.loop-place.invariant.context ∙ c.requires.legal)

pub run_place-requires-clause-ready : goal.run_place-requires-clause-ready
run_place-requires-clause-ready g c = λ d e.
    let context = c.loop-place.slots.context.now in
    is_ready_at c.tails_are_last_touchers.ensures c.last_toucher_is_last.ensures
    (the_day context) context.plan context.planned c.args.order.now c.loop-place.place-index
    (stands c.loop-place.slots) c.loop-place-test.true
    (ap (λ x. first_order_fault x.plan c.args.order.now) c.loop-place.invariant.context ∙ c.requires.legal)
    (c.loop-place.invariant.standing d e)

pub loop-place-preserved : goal.loop-place-preserved
loop-place-preserved g c =
    let k = c.loop-place.place-index in
    let order = c.args.order.now in
    let context = c.loop-place.slots.context.now in
    let pushed : c.push_reserved.new.self.items ≡ c.loop-place.done.items ++ c.in_ok-one.one ∷ [] = search rules in
    record {
      context = c.in_ok-one.ensures.context ∙ c.loop-place.invariant.context;
      room = search rules;
      places = ap places_of pushed ∙ map-append _ c.loop-place.done.items (c.in_ok-one.one ∷ [])
          ∙ ap (λ xs. xs ++ c.in_ok-one.one.place ∷ []) c.loop-place.invariant.places
          ∙ ap (λ x. take k order ++ x ∷ []) c.in_ok-one.ensures.place
          ∙ sym (take_more order k 0 c.loop-place-test.true);
      standing = λ d e. subst (λ x. StandAfter (the_day x) (take (k + 1) order) (stands c.run_place.new.slots))
          (sym c.in_ok-one.ensures.context)
          (standing_more c.tails_are_last_touchers.ensures c.last_toucher_is_last.ensures
          (the_day context) context.plan context.planned order k (stands c.loop-place.slots)
          (stands c.run_place.new.slots)
          c.loop-place-test.true (c.loop-place.invariant.standing d e) (c.in_ok-one.ensures.laid d e));
    }

pub returns-clause-standing : goal.returns-clause-standing
returns-clause-standing g c = λ d e.
    subst (λ x. StandAfter (the_day x) c.args.order.now (stands c.loop-place.slots)) c.loop-place.invariant.context
    (subst (λ xs. StandAfter (the_day c.loop-place.slots.context.now) xs (stands c.loop-place.slots))
    (take_all c.loop-place.place-index c.args.order.now (omega (arith, c.loop-place-test.false)))
    (c.loop-place.invariant.standing d e))
