use Rattle.std.proofs.Common.{◌≡◌, take, length, sym, ap, subst, ◌∙◌, refl}
use Rattle.std.proofs.lemmas.List.{take_all}
use Rattle.std.proofs.Props.{props}
use mathlib.Core.Logic.{∥∥₁_elim}
use Rattle.reg_book.specs.Day.{DayValue}
use Rattle.reg_tasks.specs.Contexts.{the_day}
use Rattle.reg_tasks.specs.Gathering.{places_of as places_done}
use Rattle.reg_tasks.specs.Slots.{IsAtEnd}
use Rattle.reg_tasks.specs.Standing.{stands}
use Rattle.reg_tasks.proofs.lemmas.Gathering.{no_name}
use Rattle.reg_tasks.proofs.lemmas.Placing.{lack_from, err_more}
use Rattle.reg_tasks.proofs.lemmas.OrderSteps.{ends_so}
use Rattle.reg_levels.specs.Levels.{StandsBetween}
use Rattle.reg_levels.proofs.Between.{none_between, stands_after}
use Rattle.reg_levels.proofs.levels.Levels.into_settled.Goals as goal

pub returns-clause-lack : goal.returns-clause-lack
returns-clause-lack g c =
    let l = c.args.self in
    let context = l.slots.context.now in
    let order = l.order.items in
    let standing = stands l.slots in
    let all : take l.laid order ≡ order = take_all l.laid order (omega (Rattle.std.proofs.Common.arith, c.requires)) in
    err_more c.into_settled.result _ _ c.into_settled.ensures.lack
    (λ lack why. lack_from lack why (λ missing. no_name g.N.Naming.day (λ d e.
    ∥∥₁_elim (ends_so c.tails_are_last_touchers.ensures c.last_toucher_is_last.ensures
    (the_day context) context.plan context.planned c.no_fault_is_a_legal_order.ensures order l.legal standing
    (stands_after (the_day context) order standing
    (subst (λ xs. StandsBetween (the_day context) xs Rattle.std.proofs.Common.[] standing) all
    (subst (λ xs. StandsBetween (the_day context) (take l.laid order) xs standing)
    (none_between order l.laid l.taken (omega (Rattle.std.proofs.Common.arith, c.requires, l.within)))
    (l.standing d e)))))
    (Prim.hlevel props) (λ ends. missing d e
    (subst (λ (x : DayValue). IsAtEnd x (places_done l.done.items) standing) (context.named d e)
    (subst (λ ps. IsAtEnd (the_day context) ps standing) (sym (l.rows ∙ all)) ends))))))
