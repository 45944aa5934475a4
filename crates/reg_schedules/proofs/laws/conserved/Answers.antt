use Rattle.std.proofs.Common.{sym, subst, ◌∙◌}
use Rattle.std.specs.Prelude.{MatchOption}
use Rattle.reg_schedules.specs.Pool.{IsSettledDay}
use Rattle.reg_schedules.proofs.ConservedEnds.{conserved-by}
use Rattle.reg_schedules.proofs.laws.conserved.Goals as goal

pub returns : goal.returns
returns c = λ day plan is_day made.
    let by = conserved-by c.settled_is_closing.ensures.committed c.fold_conserves.ensures day is_day in
    record {
      one_by_one = c.fold_conserves.ensures day is_day;
      orders = λ order end legal e.
          let ends : IsSettledDay day end =
          subst (λ o. MatchOption o ⊥ (IsSettledDay day)) e
          ((c.every_order.ensures day plan order made).legal legal) in
          by end.closing ends.closing;
      schedules = λ workers events world some e over.
          let carried = c.each_schedule_is_an_order.ensures day plan workers events world made some e in
          let ends : IsSettledDay day carried.progress =
          subst (λ o. MatchOption o ⊥ (IsSettledDay day)) carried.made.meaning
          ((c.every_order.ensures day plan carried.order made).legal (carried.complete over)) in
          by (λ a. _) (λ a. sym (carried.made.closing a) ∙ ends.closing a);
    }
