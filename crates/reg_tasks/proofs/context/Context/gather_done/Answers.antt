use Rattle.std.proofs.Common.{◌≡◌, rules, true, length, take, drop, ◌++◌, sym, ap, subst, ◌∙◌}
use Rattle.std.specs.Prelude.{IsPermutation}
use Rattle.std.proofs.Props.{props}
use Rattle.std.proofs.lemmas.List.Sorted.{length_permutation}
use mathlib.Core.Logic.{∥∥₁_elim}
use Rattle.reg_facts.proofs.lemmas.Lists.{written_whole}
use Rattle.reg_facts.proofs.lemmas.Numbers.{clash}
use Rattle.reg_base.specs.Rising.{IsRising}
use Rattle.reg_book.specs.Day.{DayValue}
use Rattle.reg_tasks.specs.Contexts.{the_day}
use Rattle.reg_tasks.specs.Gathering.{AreOutcomes, are_outcomes, places_of}
use Rattle.reg_tasks.specs.LastParcels.{parcels_in}
use Rattle.reg_tasks.specs.Parcels.{names_of}
use Rattle.reg_tasks.specs.Slots.{opened_accounts}
use Rattle.reg_tasks.proofs.lemmas.Placing.{err_more, lack_from}
use Rattle.reg_tasks.proofs.Collecting.{outcomes_pass}
use Rattle.reg_tasks.proofs.context.Context.gather_done.Goals as goal
use Rattle.reg_tasks.proofs.context.Context.gather_done.Goals.{After-settle_sorted}
use Rattle.reg_tasks.proofs.context.Context.gather_done.Given.{Over}

-- the sorted rows, and the sorted parcels
rows_now : (g : Over) (c : After-settle_sorted g)
    → take c.args.rows.len (c.sort_done.new.rows ++ drop (length c.sort_done.new.rows) c.args.rows.items)
    ≡ c.sort_done.new.rows
rows_now g c =
    let size : c.args.rows.len ≡ length c.args.rows.items = search rules in
    written_whole c.args.rows.items c.sort_done.new.rows c.args.rows.len size
    (length_permutation c.deref_mut.result.now c.sort_done.new.rows c.sort_done.ensures.same
    ∙ ap length c.deref_mut.ensures.value)

parcels_now : (g : Over) (c : After-settle_sorted g)
    → take c.args.parcels.len
    (c.sort_parcels.new.parcels ++ drop (length c.sort_parcels.new.parcels) c.args.parcels.items)
    ≡ c.sort_parcels.new.parcels
parcels_now g c =
    let size : c.args.parcels.len ≡ length c.args.parcels.items = search rules in
    written_whole c.args.parcels.items c.sort_parcels.new.parcels c.args.parcels.len size
    (length_permutation c.deref_mut-2.result.now c.sort_parcels.new.parcels c.sort_parcels.ensures.same
    ∙ ap length c.deref_mut-2.ensures.value)

pub returns-clause-lack : goal.returns-clause-lack
returns-clause-lack g c =
    let context = c.args.self.now in
    let plan = context.plan in
    let accounts = opened_accounts plan.openings in
    let rising : IsRising accounts = ∥∥₁_elim context.planned (Prim.hlevel props) (λ made. made.openings.rising) in
    err_more c.settle_sorted.result _ _ c.settle_sorted.ensures.lack (λ l lack. lack_from l lack (λ missing d e all.
    let here : AreOutcomes (the_day context) (places_of c.args.rows.items)
    (names_of (parcels_in c.args.parcels.items)) =
    subst (λ (x : DayValue). AreOutcomes x (places_of c.args.rows.items) (names_of (parcels_in c.args.parcels.items)))
    (sym (context.named d e)) all in
    let pass : are_outcomes (the_day context) accounts (places_of c.sort_done.new.rows)
    (names_of (parcels_in c.sort_parcels.new.parcels)) ≡ true =
    outcomes_pass c.tails_are_last_touchers.ensures c.last_toucher_is_last.ensures
    (the_day context) plan context.planned rising
    c.args.rows.items c.sort_done.new.rows c.args.parcels.items c.sort_parcels.new.parcels
    (subst (λ ds. IsPermutation ds c.sort_done.new.rows) c.deref_mut.ensures.value c.sort_done.ensures.same)
    c.sort_done.ensures.sorted
    (subst (λ ls. IsPermutation ls c.sort_parcels.new.parcels) c.deref_mut-2.ensures.value c.sort_parcels.ensures.same)
    c.sort_parcels.ensures.sorted here in
    clash (ap (λ ds. are_outcomes (the_day context) accounts (places_of ds)
    (names_of (parcels_in (take c.args.parcels.len
    (c.sort_parcels.new.parcels ++ drop (length c.sort_parcels.new.parcels) c.args.parcels.items)))))
    (rows_now g (goal.at.returns-clause-lack g c).After-settle_sorted)
    ∙ ap (λ ls. are_outcomes (the_day context) accounts (places_of c.sort_done.new.rows) (names_of (parcels_in ls)))
    (parcels_now g (goal.at.returns-clause-lack g c).After-settle_sorted) ∙ pass) (missing d e)))
