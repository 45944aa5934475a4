use Rattle.std.proofs.Common.{◌≡◌, true, [], length, sym, ap, subst, ◌∙◌}
use Rattle.std.proofs.lemmas.Bool.{eqb-true}
use Rattle.std.proofs.lemmas.List.{nil_from_length}
use Rattle.reg_plan.specs.Plans.{inward}
use Rattle.reg_schedules.specs.Docks.{names_needed}
use Rattle.std.specs.Prelude.{is_some, All}
use Rattle.reg_rules.specs.State.{account}
use Rattle.reg_book.specs.Day.{day_of}
use Rattle.reg_tasks.proofs.Complete.{complete_from}
use Rattle.reg_tasks.proofs.Opening.{all_known, needed_none}
use Rattle.reg_tasks.proofs.task.Task.open.Goals as goal

pub open_all-requires : goal.open_all-requires
open_all-requires g c =
    let day = day_of c.args.context.now.book.now c.args.context.now.rules.now c.args.context.now.batch.now in
    record {
      known = subst (All (λ a. is_some (account c.args.context.now.book.now.accounts a) ≡ true))
          (sym c.touched_at.ensures.value) (all_known c.each_footprint_is_sound.ensures day c.args.place);
    }

pub invariant_of-result : goal.invariant_of-result
invariant_of-result g c =
    let day = day_of c.args.context.now.book.now c.args.context.now.rules.now c.args.context.now.batch.now in
    let plan = c.args.context.now.plan in
    let arrows = c.arrows_to.result.now in
    let touched = c.touched_at.result.now in
    let none : arrows ≡ [] = nil_from_length arrows
    (eqb-true (length arrows) 0 (sym c.is_empty.ensures ∙ c.if-not-is_empty.false)) in
    record {
      complete = λ d e. complete_from c.tails_are_last_touchers.ensures c.last_toucher_is_last.ensures day plan
          c.args.context.now.planned c.args.place _ c.requires.place
          (c.in_ok-parcels.ensures.names
          ∙ sym (needed_none touched)
          ∙ ap (λ ws. names_needed ws touched) (sym none ∙ c.arrows_to.ensures)
          ∙ ap (names_needed (inward plan.arrows c.args.place)) c.touched_at.ensures.value)
          d (c.args.context.now.named d e);
    }
