use Rattle.std.proofs.Common.{◌≡◌, ◌+◌, ◌<◌, ◌++◌, ◌∷◌, [], ℕ, map, length, take, get_or, Some, None, cond, arith}
use Rattle.std.proofs.Common.{rules, sym, ap, subst, ◌∙◌}
use Rattle.std.proofs.lemmas.List.{take_more, map-append}
use Rattle.reg_base.specs.Footprint.{is_among}
use Rattle.reg_plan.specs.Orders.{first_order_fault}
use Rattle.reg_book.specs.Day.{DayValue}
use Rattle.reg_schedules.specs.Pool.{footprint_at}
use Rattle.reg_tasks.specs.Contexts.{the_day}
use Rattle.reg_tasks.specs.Gathering.{places_of as places_done}
use Rattle.reg_tasks.specs.Parcels.{names_of}
use Rattle.reg_tasks.specs.Slots.{laid_at}
use Rattle.reg_tasks.specs.Standing.{stands}
use Rattle.reg_tasks.proofs.lemmas.Placing.{laid_left}
use Rattle.reg_levels.specs.Levels.{StandsBetween, IsByLevel, IsOneLevel, places_between}
use Rattle.reg_levels.proofs.Between.{between_first, laid_more}
use Rattle.reg_levels.proofs.Apart.{untouched_after, level_more}
use Rattle.reg_levels.proofs.levels.Levels.lay_one.Goals as goal

pub invariant_of-self-2 : goal.invariant_of-self-2
invariant_of-self-2 g c =
    let l = c.args.self.now in
    let context = l.slots.context.now in
    let order = l.order.items in
    let x : ℕ = get_or order l.laid 0 in
    let few : l.laid < length order = let w = l.within in let r = c.requires.running in omega (arith, w, r) in
    let pushed : c.push_reserved.new.self.items ≡ l.done.items ++ c.in-Ok.done ∷ [] = search rules in
    record {
      legal = subst (λ x. first_order_fault x.plan order ≡ None) (sym c.in-Ok.ensures.context) l.legal;
      by_level = subst (λ x. IsByLevel x.plan order) (sym c.in-Ok.ensures.context) l.by_level;
      ahead = let r = c.requires.running in omega (arith, r);
      within = l.within;
      level = subst (λ x. IsOneLevel x.plan order (l.laid + 1) l.taken) (sym c.in-Ok.ensures.context)
          (level_more context.plan order l.laid l.taken l.level);
      standing = λ d e.
          let fs = footprint_at (the_day context) x in
          let left : names_of c.args.outcome.parcels.items ≡ map (λ a. (a, x)) fs =
          c.args.outcome.left d e
          ∙ ap (λ p. map (λ a. (a, p)) (footprint_at d p)) c.requires.place
          ∙ ap (λ (y : DayValue). map (λ a. (a, x)) (footprint_at y x)) (sym (context.named d e)) in
          let laid : (a : ℕ) → stands c.lay.new.self a ≡ cond (is_among fs a) (Some (a, x)) (stands l.slots a) =
          λ a. c.in-Ok.ensures.laid a ∙ ap (λ ns. laid_at ns (stands l.slots a) a) left
          ∙ laid_left x fs (stands l.slots a) a in
          subst (λ y. StandsBetween (the_day y) (take (l.laid + 1) order) (places_between order (l.laid + 1) l.taken)
          (stands c.lay.new.self)) (sym c.in-Ok.ensures.context)
          (subst (λ xs. StandsBetween (the_day context) xs (places_between order (l.laid + 1) l.taken)
          (stands c.lay.new.self)) (sym (take_more order l.laid 0 few))
          (laid_more (the_day context) (take l.laid order) (places_between order (l.laid + 1) l.taken) x
          (stands l.slots) (stands c.lay.new.self)
          (λ a on. untouched_after c.levels_rise_along_arrows.ensures c.tails_are_last_touchers.ensures
          c.last_toucher_is_last.ensures (the_day context) context.plan context.planned order l.legal
          a l.laid l.taken c.requires.running l.within l.level on)
          (subst (λ xs. StandsBetween (the_day context) (take l.laid order) xs (stands l.slots))
          (between_first order l.laid l.taken c.requires.running l.within) (l.standing d e)) laid));
      rows = ap places_done pushed ∙ map-append _ l.done.items (c.in-Ok.done ∷ [])
          ∙ ap (λ xs. xs ++ c.in-Ok.done.place ∷ []) l.rows
          ∙ ap (λ p. take l.laid order ++ p ∷ []) (c.in-Ok.ensures.place ∙ c.requires.place)
          ∙ sym (take_more order l.laid 0 few);
      room = search rules;
    }
