use Rattle.std.proofs.Common.{◌≡◌, true, sym, subst, ◌∙◌}
use Rattle.reg_book.specs.Day.{DayValue}
use Rattle.reg_tasks.specs.Contexts.{the_day}
use Rattle.reg_tasks.specs.Gathering.{IsLastName, is_last}
use Rattle.reg_tasks.proofs.LastNames.{last-name}
use Rattle.reg_tasks.proofs.context.Context.last_parcel.Goals as goal

pub new-last-requires : goal.new-last-requires
new-last-requires g c = λ d e.
    let context = c.args.self.now in
    let p = c.args.parcel in
    let passed : is_last (the_day context) context.plan (p.value.number, p.after) ≡ true =
    sym c.is_last.ensures ∙ c.if-not-is_last.false in
    subst (λ (x : DayValue). IsLastName x (p.value.number, p.after)) (context.named d e)
    (last-name c.tails_are_last_touchers.ensures c.last_toucher_is_last.ensures (the_day context) context.plan
    context.planned p.value.number p.after passed)
