use Rattle.std.proofs.Common.{◌≡◌, Some, length, sym, subst}
use Rattle.std.proofs.Props.{props}
use mathlib.Core.Logic.{∥∥₁_elim}
use Rattle.reg_facts.proofs.lemmas.Numbers.{clash}
use Rattle.reg_base.specs.Rising.{IsRising, count_up}
use Rattle.reg_book.specs.Day.{DayValue}
use Rattle.reg_tasks.specs.Contexts.{the_day}
use Rattle.reg_tasks.specs.LastParcels.{parcels_in}
use Rattle.reg_tasks.specs.Parcels.{names_of}
use Rattle.reg_tasks.specs.Slots.{opened_accounts, LacksFor, IsAtEnd}
use Rattle.reg_tasks.specs.Standing.{stands}
use Rattle.reg_tasks.proofs.AtEnd.{accounts_of_end, all_last_there}
use Rattle.reg_tasks.proofs.lemmas.Placing.{lack_from, err_from, err_more}
use Rattle.reg_tasks.proofs.slots.Slots.into_settled_with.Goals as goal

pub returns-in_err-parcels-clause-lack : goal.returns-in_err-parcels-clause-lack
returns-in_err-parcels-clause-lack g c =
    let context = c.args.self.context.now in
    let rising : IsRising (opened_accounts context.plan.openings) =
    ∥∥₁_elim context.planned (Prim.hlevel props) (λ made. made.openings.rising) in
    err_from c.from_residual.result _
    (LacksFor ((d : DayValue) → g.N.Naming.day ≡ Some d
    → ¬ (IsAtEnd d (count_up 1 (length d.batch.instructions)) (stands c.args.self)))) c.from_residual.ensures.1
    (λ l same. subst (LacksFor ((d : DayValue) → g.N.Naming.day ≡ Some d
    → ¬ (IsAtEnd d (count_up 1 (length d.batch.instructions)) (stands c.args.self)))) (sym same)
    (lack_from c.in_err-parcels.field-0.0 c.in_err-parcels.ensures.lack (λ missing d e ends.
    let here = subst (λ (x : DayValue). IsAtEnd x (count_up 1 (length x.batch.instructions)) (stands c.args.self))
    (sym (context.named d e)) ends in
    clash (all_last_there c.tails_are_last_touchers.ensures c.last_toucher_is_last.ensures
    (the_day context) context.plan context.planned rising c.args.self.slots.items c.args.self.size _ here)
    missing)))

pub returns-clause-lack : goal.returns-clause-lack
returns-clause-lack g c =
    let context = c.args.self.context.now in
    let rising : IsRising (opened_accounts context.plan.openings) =
    ∥∥₁_elim context.planned (Prim.hlevel props) (λ made. made.openings.rising) in
    err_more c.settle_log.result _ _ c.settle_log.ensures.lack (λ l lack. lack_from l lack (λ missing d e ends.
    let here = subst (λ (x : DayValue). IsAtEnd x (count_up 1 (length x.batch.instructions)) (stands c.args.self))
    (sym (context.named d e)) ends in
    clash (accounts_of_end c.tails_are_last_touchers.ensures c.last_toucher_is_last.ensures
    (the_day context) context.plan context.planned rising c.args.self.slots.items c.args.self.size _
    (names_of (parcels_in c.in_ok-parcels.parcels.items)) c.in_ok-parcels.ensures.names here) (missing d e)))
