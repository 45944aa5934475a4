use Rattle.std.proofs.Common.{◌≡◌, map, sym, ap, ◌∙◌, Some, cond}
use Rattle.reg_base.specs.Footprint.{is_among}
use Rattle.reg_book.specs.Day.{DayValue}
use Rattle.reg_schedules.specs.Pool.{footprint_at}
use Rattle.reg_tasks.specs.Contexts.{the_day}
use Rattle.reg_tasks.specs.Parcels.{names_of}
use Rattle.reg_tasks.specs.Slots.{laid_at}
use Rattle.reg_tasks.specs.Standing.{stands}
use Rattle.reg_tasks.proofs.lemmas.Placing.{laid_left, laid_over}
use Rattle.reg_tasks.proofs.turn.run_at.Goals as goal

pub returns-clause-laid : goal.returns-clause-laid
returns-clause-laid g c = λ d e a.
    let context = c.args.slots.now.context.now in
    let fs = footprint_at (the_day context) c.args.place in
    let place : c.in-Ok.outcome.place ≡ c.args.place = c.in-Ok.ensures.place ∙ c.in_ok-task.ensures.place in
    let left : names_of c.in-Ok.outcome.parcels.items ≡ map (λ x. (x, c.args.place)) fs =
    c.in-Ok.outcome.left d e
    ∙ ap (λ p. map (λ x. (x, p)) (footprint_at d p)) place
    ∙ ap (λ (x : DayValue). map (λ y. (y, c.args.place)) (footprint_at x c.args.place)) (sym (context.named d e)) in
    c.in-Ok-lay_for_row.ensures.laid a
    ∙ ap (λ ns. laid_at ns (stands c.take.new.self a) a) left
    ∙ laid_left c.args.place fs (stands c.take.new.self a) a
    ∙ ap (λ o. cond (is_among fs a) (Some (a, c.args.place)) o) (c.in_ok-task.ensures.taken a)
    ∙ laid_over (is_among fs a) (Some (a, c.args.place)) (stands c.args.slots.now a)
