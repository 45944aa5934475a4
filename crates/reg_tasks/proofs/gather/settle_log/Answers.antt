use Rattle.std.proofs.Common.{◌≡◌, true, take, length, sym, ap, subst, ◌∙◌}
use Rattle.std.proofs.Props.{props}
use mathlib.Core.Logic.{∥∥₁_elim}
use Rattle.reg_base.specs.Rising.{IsRising}
use Rattle.reg_plan.specs.Plans.{IsPlan}
use Rattle.reg_book.specs.Day.{DayValue, IsDay, log_of}
use Rattle.reg_schedules.specs.Pool.{directory}
use Rattle.reg_tasks.specs.Gathering.{AreLast, have_accounts}
use Rattle.reg_tasks.specs.LastParcels.{parcels_in}
use Rattle.reg_tasks.specs.Parcels.{names_of}
use Rattle.reg_tasks.specs.Slots.{opened_accounts}
use Rattle.reg_tasks.proofs.Collecting.{accounts_tested, all_last, each_last, first_whole, settled_from}
use Rattle.reg_tasks.proofs.gather.settle_log.Goals as goal

pub settle-requires : goal.settle-requires
settle-requires g c =
    let context = c.args.context.now in
    let plan = context.plan in
    let lasts = c.args.parcels.items in
    let accounts = opened_accounts plan.openings in
    let rising : IsRising accounts = ∥∥₁_elim context.planned (Prim.hlevel props) (λ made. made.openings.rising) in
    let passed : have_accounts accounts (names_of (parcels_in lasts)) ≡ true =
    ap (λ ls. have_accounts accounts (names_of (parcels_in ls))) (sym c.deref.ensures.value)
    ∙ sym c.have_accounts.ensures ∙ c.if-not-have_accounts.false in
    let numbers = accounts_tested accounts (names_of (parcels_in lasts)) passed in
    record {
      gathered = record {
        rows_are = λ d e. first_whole d c.args.log.items
            (subst (λ (x : DayValue). c.args.log.items ≡ take (length x.batch.instructions) (log_of d))
            (context.named d e)
            (c.requires.log d e));
        accounts_are = λ d e.
            let planned = subst (λ (x : DayValue). ∥ IsPlan (directory x) x.batch.instructions plan ∥₁)
            (context.named d e)
            context.planned in
            let is : AreLast d (names_of (parcels_in lasts)) =
            all_last c.tails_are_last_touchers.ensures c.last_toucher_is_last.ensures d plan planned rising
            (names_of (parcels_in lasts)) numbers (each_last d e lasts) in
            c.in_ok-closing.ensures
            ∙ settled_from c.settled_is_closing.ensures.settled c.settled_is_of_book.ensures.in_order
            c.value_is_last_touchers.ensures d (subst IsDay (context.named d e) c.is_day.ensures) e
            (parcels_in lasts) is
            accounts rising numbers;
      };
    }
