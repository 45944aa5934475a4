use Rattle.reg_schedules.proofs.Executing.{Known}
use Rattle.reg_schedules.proofs.Orders.{order_decides}
use Rattle.reg_schedules.proofs.laws.every_order.Goals as goal

pub returns : goal.returns
returns c = λ day plan order made.
    let known : Known = record {
      steps = c.step_laws.ensures;
      each_step = c.each_is_a_step.ensures;
      numbers = c.untouched_stay.ensures.numbers;
      values = c.value_is_last_touchers.ensures;
      sound = c.each_footprint_is_sound.ensures;
      last = c.last_toucher_is_last.ensures;
      tails = c.tails_are_last_touchers.ensures;
    } in
    order_decides known day plan made c.untouched_stay.ensures.accounts c.settled_is_closing.ensures.settled
    c.no_fault_is_a_legal_order.ensures order
