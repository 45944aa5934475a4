use Rattle.std.proofs.Common.{sym, subst}
use Rattle.std.proofs.Props.{props}
use mathlib.Core.Logic.{∥∥₁_elim}
use Rattle.reg_book.specs.Day.{DayValue}
use Rattle.reg_tasks.specs.Contexts.{the_day}
use Rattle.reg_tasks.specs.Gathering.{places_of}
use Rattle.reg_tasks.specs.Slots.{StandAfter, IsAtEnd}
use Rattle.reg_tasks.specs.Standing.{stands}
use Rattle.reg_tasks.proofs.lemmas.Gathering.{no_name}
use Rattle.reg_tasks.proofs.lemmas.Placing.{lack_from, err_more}
use Rattle.reg_tasks.proofs.lemmas.OrderSteps.{ends_so}
use Rattle.reg_tasks.proofs.order.run_legal.Goals as goal

pub returns-clause-lack : goal.returns-clause-lack
returns-clause-lack g c =
    let context = c.args.context.now in
    let standing = stands c.run_places.new.slots in
    err_more c.into_settled.result _ _ c.into_settled.ensures.lack
    (λ l lack. lack_from l lack (λ missing. no_name g.N.Naming.day (λ d e.
    ∥∥₁_elim (ends_so c.tails_are_last_touchers.ensures c.last_toucher_is_last.ensures
    (the_day context) context.plan context.planned c.no_fault_is_a_legal_order.ensures c.args.order.now
    c.requires.legal standing
    (subst (λ x. StandAfter (the_day x) c.args.order.now standing) c.in_ok-slots.ensures.context
    (c.in_ok-done.ensures.standing d e)))
    (Prim.hlevel props) (λ ends. missing d e
    (subst (λ (x : DayValue). IsAtEnd x (places_of c.in_ok-done.done.items) standing) (context.named d e)
    (subst (λ ps. IsAtEnd (the_day context) ps standing) (sym c.in_ok-done.ensures.places) ends))))))
