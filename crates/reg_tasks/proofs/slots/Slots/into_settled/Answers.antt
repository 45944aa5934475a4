use Rattle.std.proofs.Common.{◌≡◌, Some, sym, subst}
use Rattle.std.proofs.Props.{props}
use mathlib.Core.Logic.{∥∥₁_elim}
use Rattle.reg_facts.proofs.lemmas.Numbers.{clash}
use Rattle.reg_base.specs.Rising.{IsRising}
use Rattle.reg_book.specs.Day.{DayValue}
use Rattle.reg_tasks.specs.Contexts.{the_day}
use Rattle.reg_tasks.specs.Gathering.{AreOutcomes, places_of}
use Rattle.reg_tasks.specs.LastParcels.{parcels_in}
use Rattle.reg_tasks.specs.Parcels.{names_of}
use Rattle.reg_tasks.specs.Slots.{opened_accounts, LacksFor, IsAtEnd}
use Rattle.reg_tasks.specs.Standing.{stands}
use Rattle.reg_tasks.proofs.AtEnd.{all_last_there, outcomes_at_end}
use Rattle.reg_tasks.proofs.lemmas.Placing.{lack_from, err_from, err_more}
use Rattle.reg_tasks.proofs.slots.Slots.into_settled.Goals as goal

pub returns-in_err-parcels-clause-lack : goal.returns-in_err-parcels-clause-lack
returns-in_err-parcels-clause-lack g c =
    let context = c.args.self.context.now in
    let rising : IsRising (opened_accounts context.plan.openings) =
    ∥∥₁_elim context.planned (Prim.hlevel props) (λ made. made.openings.rising) in
    err_from c.from_residual.result _
    (LacksFor ((d : DayValue) → g.N.Naming.day ≡ Some d
    → ¬ (IsAtEnd d (places_of c.args.done.items) (stands c.args.self)))) c.from_residual.ensures.1
    (λ l same. subst (LacksFor ((d : DayValue) → g.N.Naming.day ≡ Some d
    → ¬ (IsAtEnd d (places_of c.args.done.items) (stands c.args.self)))) (sym same)
    (lack_from c.in_err-parcels.field-0.0 c.in_err-parcels.ensures.lack (λ missing d e ends.
    clash (all_last_there c.tails_are_last_touchers.ensures c.last_toucher_is_last.ensures
    (the_day context) context.plan context.planned rising c.args.self.slots.items c.args.self.size
    (places_of c.args.done.items)
    (subst (λ (x : DayValue). IsAtEnd x (places_of c.args.done.items) (stands c.args.self))
    (sym (context.named d e)) ends))
    missing)))

pub returns-clause-lack : goal.returns-clause-lack
returns-clause-lack g c =
    let context = c.args.self.context.now in
    let rising : IsRising (opened_accounts context.plan.openings) =
    ∥∥₁_elim context.planned (Prim.hlevel props) (λ made. made.openings.rising) in
    err_more c.gather_done.result _ _ c.gather_done.ensures.lack (λ l lack. lack_from l lack (λ missing d e ends.
    missing d e (subst (λ (x : DayValue).
    AreOutcomes x (places_of c.args.done.items) (names_of (parcels_in c.in_ok-parcels.parcels.items)))
    (context.named d e)
    (outcomes_at_end c.tails_are_last_touchers.ensures c.last_toucher_is_last.ensures
    (the_day context) context.plan context.planned rising c.args.self.slots.items c.args.self.size
    (places_of c.args.done.items)
    (names_of (parcels_in c.in_ok-parcels.parcels.items)) c.in_ok-parcels.ensures.names
    (subst (λ (x : DayValue). IsAtEnd x (places_of c.args.done.items) (stands c.args.self))
    (sym (context.named d e)) ends)))))
