use Rattle.std.proofs.Common.{suc, arith}
use Rattle.reg_schedules.proofs.Executing.{Known}
use Rattle.reg_schedules.proofs.WorldBound.{left_to_do}
use Rattle.reg_schedules.proofs.WorldOrder.{ordered-after}
use Rattle.reg_schedules.proofs.WorldLegal.{begins-legal, legal-order}
use Rattle.reg_schedules.proofs.WorldPool.{each-in-pool, each-lies}
use Rattle.reg_schedules.proofs.laws.each_schedule_is_an_order.Goals as goal

pub returns : goal.returns
returns c = λ day plan workers events world made some e.
    let known : Known = record {
      steps = c.step_laws.ensures;
      each_step = c.each_is_a_step.ensures;
      numbers = c.untouched_stay.ensures.numbers;
      values = c.value_is_last_touchers.ensures;
      sound = c.each_footprint_is_sound.ensures;
      last = c.last_toucher_is_last.ensures;
      tails = c.tails_are_last_touchers.ensures;
    } in
    let h = ordered-after known day plan made workers some events world e in
    record {
      order = h.order;
      progress = h.ordered.progress;
      made = h.ordered.is_of;
      pool = each-in-pool known day plan made workers h.order world h.whole h.ordered;
      lies = each-lies known day plan made workers h.order world h.whole h.ordered;
      legal = begins-legal known c.no_fault_is_a_legal_order.ensures day plan made (suc (left_to_do plan world)) workers
          h.order world h.whole h.ordered (omega arith);
      complete = legal-order known c.no_fault_is_a_legal_order.ensures day plan made workers h.order world h.whole
          h.ordered;
    }
