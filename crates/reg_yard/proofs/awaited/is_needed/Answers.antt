use Rattle.std.proofs.Common.{◌≡◌, ◌&&◌, eqb, true, false, sym, ap, ◌∙◌}
use Rattle.std.specs.List.{list_any}
use Rattle.reg_plan.specs.Plans.{inward}
use Rattle.reg_schedules.specs.Pool.{footprint_at, tail_in}
use Rattle.reg_tasks.specs.Contexts.{the_day}
use Rattle.reg_yard.proofs.Wanted.{needed-any}
use Rattle.reg_yard.proofs.awaited.is_needed.Goals as goal

pub returns-then-is_of : goal.returns-then-is_of
returns-then-is_of g c =
    let accounts = footprint_at (the_day c.args.context.now) c.args.place in
    let arrows = inward c.args.context.now.plan.arrows c.args.place in
    let a = c.args.parcel.now.value.number in
    let after = c.args.parcel.now.after in
    let any : list_any (λ other. eqb other a) accounts ≡ true =
    ap (list_any (λ other. eqb other a)) (sym c.awaited_accounts.ensures)
    ∙ ap (λ n. list_any (λ other. eqb other n) c.awaited_accounts.result.now) (sym c.account-account.ensures)
    ∙ sym c.is_of.ensures ∙ c.if-is_of.true in
    ap (λ t. eqb t c.after.result) (c.tail_of.ensures ∙ ap (tail_in arrows) c.account-account.ensures)
    ∙ ap (eqb (tail_in arrows a)) c.after.ensures
    ∙ sym (needed-any arrows accounts a after ∙ ap (λ b. b && eqb (tail_in arrows a) after) any)

pub returns-else-is_of : goal.returns-else-is_of
returns-else-is_of g c =
    let accounts = footprint_at (the_day c.args.context.now) c.args.place in
    let arrows = inward c.args.context.now.plan.arrows c.args.place in
    let a = c.args.parcel.now.value.number in
    let after = c.args.parcel.now.after in
    let none : list_any (λ other. eqb other a) accounts ≡ false =
    ap (list_any (λ other. eqb other a)) (sym c.awaited_accounts.ensures)
    ∙ ap (λ n. list_any (λ other. eqb other n) c.awaited_accounts.result.now) (sym c.account-account.ensures)
    ∙ sym c.is_of.ensures ∙ c.if-is_of.false in
    c.if-is_of.false ∙ sym (needed-any arrows accounts a after ∙ ap (λ b. b && eqb (tail_in arrows a) after) none)
