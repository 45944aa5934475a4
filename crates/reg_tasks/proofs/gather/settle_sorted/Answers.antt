use Rattle.std.proofs.Common.{◌≡◌, true, length, map, Some, sym, ap, subst, ◌∙◌}
use Rattle.std.proofs.Props.{props}
use mathlib.Core.Logic.{∥∥₁_elim}
use Rattle.reg_base.specs.Rising.{IsRising, count_up}
use Rattle.reg_plan.specs.Plans.{IsPlan}
use Rattle.reg_book.specs.Day.{DayValue, IsDay}
use Rattle.reg_schedules.specs.Pool.{directory}
use Rattle.reg_tasks.specs.Contexts.{the_day}
use Rattle.reg_tasks.specs.Gathering.{AreLast, are_outcomes, places_of, rows_in}
use Rattle.reg_tasks.specs.LastParcels.{parcels_in}
use Rattle.reg_tasks.specs.Parcels.{names_of}
use Rattle.reg_tasks.specs.Slots.{opened_accounts}
use Rattle.reg_tasks.proofs.Collecting.{outcomes_tested, accounts_tested, all_last, each_last, all_within, log_from}
use Rattle.reg_tasks.proofs.Collecting.{settled_from}
use Rattle.reg_tasks.proofs.gather.settle_sorted.Goals as goal

pub into_rows-requires : goal.into_rows-requires
into_rows-requires g c =
    let day = the_day c.args.context.now in
    let accounts = opened_accounts c.args.context.now.plan.openings in
    let names = names_of (parcels_in c.args.parcels.items) in
    let passed : are_outcomes day accounts (places_of c.args.rows.items) names ≡ true =
    ap (λ ds. are_outcomes day accounts (places_of ds) names) (sym c.deref.ensures.value)
    ∙ ap (λ ls. are_outcomes day accounts (places_of c.deref.result.now) (names_of (parcels_in ls)))
    (sym c.deref-2.ensures.value)
    ∙ sym c.are_outcomes.ensures ∙ c.if-not-are_outcomes.false in
    record {
      within = all_within (length day.batch.instructions) c.args.rows.items
          (outcomes_tested day accounts (places_of c.args.rows.items) names passed).0;
    }

pub settle-requires : goal.settle-requires
settle-requires g c =
    let context = c.args.context.now in
    let day = the_day context in
    let plan = context.plan in
    let lasts = c.args.parcels.items in
    let accounts = opened_accounts plan.openings in
    let names = names_of (parcels_in lasts) in
    let rising : IsRising accounts = ∥∥₁_elim context.planned (Prim.hlevel props) (λ made. made.openings.rising) in
    let passed : are_outcomes day accounts (places_of c.args.rows.items) names ≡ true =
    ap (λ ds. are_outcomes day accounts (places_of ds) names) (sym c.deref.ensures.value)
    ∙ ap (λ ls. are_outcomes day accounts (places_of c.deref.result.now) (names_of (parcels_in ls)))
    (sym c.deref-2.ensures.value)
    ∙ sym c.are_outcomes.ensures ∙ c.if-not-are_outcomes.false in
    let tested = outcomes_tested day accounts (places_of c.args.rows.items) names passed in
    let numbers = accounts_tested accounts names tested.1 in
    record {
      gathered = record {
        rows_are = λ d e. log_from d e c.args.rows.items
            (subst (λ (x : DayValue). places_of c.args.rows.items ≡ count_up 1 (length x.batch.instructions))
            (context.named d e) tested.0)
            c.in_ok-log.log.items
            (subst (λ (x : DayValue). map Some c.in_ok-log.log.items ≡ rows_in x c.args.rows.items) (context.named d e)
            c.in_ok-log.ensures);
        accounts_are = λ d e.
            let planned = subst (λ (x : DayValue). ∥ IsPlan (directory x) x.batch.instructions plan ∥₁)
            (context.named d e)
            context.planned in
            let is : AreLast d names =
            all_last c.tails_are_last_touchers.ensures c.last_toucher_is_last.ensures d plan planned rising names
            numbers
            (each_last d e lasts) in
            c.in_ok-accounts.ensures
            ∙ settled_from c.settled_is_closing.ensures.settled c.settled_is_of_book.ensures.in_order
            c.value_is_last_touchers.ensures d (subst IsDay (context.named d e) c.is_day.ensures) e
            (parcels_in lasts) is
            accounts rising numbers;
      };
    }
