use Rattle.std.proofs.Common.{◌≡◌, ◌+◌, rules, sym, ap, subst, ◌∙◌}
use Rattle.std.specs.Prelude.{not}
use Rattle.std.specs.List.{AllByRecursion, list_all}
use Rattle.reg_base.specs.declared.limits.TheConstants.{MOST_TOUCHED}
use Rattle.reg_account.specs.Account.{AccountValue}
use Rattle.reg_rules.specs.State.{numbers}
use Rattle.reg_rules.specs.Effect.{IsBehind}
use Rattle.reg_book.specs.Book.{has_row_ahead}
use Rattle.reg_book.specs.Day.{DayValue, IsDay, day_of}
use Rattle.reg_schedules.specs.Pool.{footprint_at}
use Rattle.reg_tasks.specs.Parcels.{values_of}
use Rattle.reg_tasks.proofs.Running.{all_behind}
use Rattle.reg_tasks.proofs.Fitting.{numbers_fit, rows_fit, few_values}
use Rattle.reg_tasks.proofs.task.Task.fits.Goals as goal

pub returns-then-not-are_of-clause-named : goal.returns-then-not-are_of-clause-named
returns-then-not-are_of-clause-named g c = λ d e.
    let place = c.args.self.now.place in
    let items = c.args.self.now.parcels.items in
    let fit = ap (λ ps. numbers (values_of ps)) c.deref.ensures.value
    ∙ numbers_fit d place (footprint_at d place) items (c.args.self.now.complete d e).names_are
    ∙ ap (λ (x : DayValue). footprint_at x place) (sym (c.args.context.now.named d e))
    ∙ sym c.touched_at-touched.ensures.value in
    sym c.if-not-are_of.true ∙ c.are_of.ensures.1 fit

pub returns-clause-is_for : goal.returns-clause-is_for
returns-clause-is_for g c = λ t.
    let items = c.args.self.now.parcels.items in
    let own : numbers (values_of items)
    ≡ footprint_at (day_of c.args.context.now.book.now c.args.context.now.rules.now c.args.context.now.batch.now)
    c.args.self.now.place =
    ap (λ ps. numbers (values_of ps)) (sym c.deref.ensures.value) ∙ c.are_of.ensures.0 c.if-not-are_of.false
    ∙ c.touched_at-touched.ensures.value in
    record {
      low = search rules;
      high = search rules;
      touched = own;
      few = few_values items MOST_TOUCHED c.touched_at-touched.result.now (own ∙ sym c.touched_at-touched.ensures.value)
          c.touched_at-touched.ensures.few;
      behind = subst (λ n. AllByRecursion (IsBehind n) (values_of items)) c.number_of.ensures
          (all_behind c.number_of.result (values_of items)
          (ap (λ ps. list_all (λ (v : AccountValue). not (has_row_ahead c.number_of.result v)) (values_of ps))
          (sym c.deref-2.ensures.value) ∙ sym c.are_behind.ensures ∙ t));
    }

pub returns-clause-named : goal.returns-clause-named
returns-clause-named g c = λ d e.
    let named = c.args.context.now.named d e in
    let place = c.args.self.now.place in
    let items = c.args.self.now.parcels.items in
    let needed = c.args.self.now.complete d e in
    let number = c.number_of.ensures ∙ ap (λ (x : DayValue). x.batch.base + place) named in
    c.are_behind.ensures
    ∙ ap (λ ps. list_all (λ (v : AccountValue). not (has_row_ahead c.number_of.result v)) (values_of ps))
    c.deref-2.ensures.value
    ∙ ap (λ n. list_all (λ (v : AccountValue). not (has_row_ahead n v)) (values_of items)) number
    ∙ rows_fit c.value_is_last_touchers.ensures c.stays_ready.ensures d (subst IsDay named c.is_day.ensures) e place
    needed.low needed.high (footprint_at d place) items needed.names_are
