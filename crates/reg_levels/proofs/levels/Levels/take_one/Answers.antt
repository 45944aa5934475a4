use Rattle.std.proofs.Common.{◌≡◌, ◌+◌, take, get_or, false, None, arith, sym, subst, ◌∙◌}
use Rattle.std.proofs.lemmas.Grind.{get_or_default_zero}
use Rattle.reg_facts.proofs.lemmas.Numbers.{clash}
use Rattle.reg_plan.specs.Orders.{first_order_fault}
use Rattle.reg_tasks.specs.Contexts.{the_day}
use Rattle.reg_tasks.specs.Places.{IsPlaceOf}
use Rattle.reg_tasks.specs.Slots.{IsLack, AreTaken, is_ready}
use Rattle.reg_tasks.specs.Standing.{stands}
use Rattle.reg_tasks.proofs.lemmas.Gathering.{no_name}
use Rattle.reg_tasks.proofs.lemmas.Placing.{lack_from, err_from}
use Rattle.reg_tasks.proofs.lemmas.OrderSteps.{place_at}
use Rattle.reg_levels.specs.Levels.{StandsBetween, IsByLevel, IsOneLevel, places_between}
use Rattle.reg_levels.proofs.Between.{between_more, taken_more}
use Rattle.reg_levels.proofs.Apart.{ready_next}
use Rattle.reg_levels.proofs.levels.Levels.take_one.Goals as goal

pub take-requires : goal.take-requires
take-requires g c =
    let l = c.args.self.now in
    let context = l.slots.context.now in
    let is : c.index-place.result.now ≡ get_or l.order.items l.taken 0 =
    c.index-place.ensures ∙ get_or_default_zero l.order.items l.taken c.index-place.result.now c.requires.left in
    record {
      place = subst (IsPlaceOf context.batch.now) (sym is)
          (place_at c.tails_are_last_touchers.ensures c.last_toucher_is_last.ensures
          (the_day context) context.plan context.planned l.order.items l.taken c.requires.left l.legal);
    }

pub returns-in_err-task-clause-lack : goal.returns-in_err-task-clause-lack
returns-in_err-task-clause-lack g c =
    let l = c.args.self.now in
    let context = l.slots.context.now in
    let is : c.index-place.result.now ≡ get_or l.order.items l.taken 0 =
    c.index-place.ensures ∙ get_or_default_zero l.order.items l.taken c.index-place.result.now c.requires.left in
    err_from c.from_residual.result _ (IsLack g.N.Naming.day) c.from_residual.ensures.1
    (λ lack same. subst (IsLack g.N.Naming.day) (sym same)
    (lack_from c.in_err-task.field-0.0 c.in_err-task.ensures.lack (λ missing. no_name g.N.Naming.day (λ d e.
    clash (ready_next c.levels_rise_along_arrows.ensures c.tails_are_last_touchers.ensures
    c.last_toucher_is_last.ensures (the_day context) context.plan context.planned l.order.items l.legal
    l.laid l.taken (stands l.slots) l.ahead c.requires.left c.requires.level (l.standing d e))
    (subst (λ place. is_ready (the_day context) context.plan place (stands l.slots) ≡ false) is missing)))))

pub invariant_of-self-2 : goal.invariant_of-self-2
invariant_of-self-2 g c =
    let l = c.args.self.now in
    let context = l.slots.context.now in
    let order = l.order.items in
    let is : c.index-place.result.now ≡ get_or order l.taken 0 =
    c.index-place.ensures ∙ get_or_default_zero l.order.items l.taken c.index-place.result.now c.requires.left in
    record {
      legal = subst (λ x. first_order_fault x.plan order ≡ None) (sym c.in_ok-task.ensures.context) l.legal;
      by_level = subst (λ x. IsByLevel x.plan order) (sym c.in_ok-task.ensures.context) l.by_level;
      ahead = omega (arith, l.ahead);
      within = omega (arith, c.requires.left);
      level = subst (λ x. IsOneLevel x.plan order l.laid (l.taken + 1))
          (sym c.in_ok-task.ensures.context) c.requires.level;
      standing = λ d e. subst (λ x.
          StandsBetween (the_day x) (take l.laid order) (places_between order l.laid (l.taken + 1))
          (stands c.take.new.self)) (sym c.in_ok-task.ensures.context)
          (subst (λ xs. StandsBetween (the_day context) (take l.laid order) xs (stands c.take.new.self))
          (sym (between_more order l.laid l.taken l.ahead c.requires.left))
          (taken_more (the_day context) (take l.laid order) (places_between order l.laid l.taken)
          (get_or order l.taken 0) (stands l.slots) (stands c.take.new.self) (l.standing d e)
          (subst (λ place. AreTaken (the_day context) place (stands l.slots) (stands c.take.new.self)) is
          c.in_ok-task.ensures.taken)));
      rows = l.rows;
      room = l.room;
    }
