use Rattle.reg_schedules.proofs.WorldBound.{events-bounded}
use Rattle.reg_schedules.proofs.lemmas.WorldEnds.{whole-after, no-task-over}
use Rattle.reg_schedules.proofs.Executing.{Known}
use Rattle.reg_schedules.proofs.WorldOrder.{ordered-after}
use Rattle.reg_schedules.proofs.WorldParcels.{value-once}
use Rattle.reg_schedules.proofs.lemmas.WorldPossible.{hands-go-on, some-possible}
use Rattle.reg_schedules.proofs.laws.nothing_lost.Goals as goal

pub returns : goal.returns
returns c = λ day plan workers events world made some e.
    let known : Known = record {
      steps = c.step_laws.ensures;
      each_step = c.each_is_a_step.ensures;
      numbers = c.untouched_stay.ensures.numbers;
      values = c.value_is_last_touchers.ensures;
      sound = c.each_footprint_is_sound.ensures;
      last = c.last_toucher_is_last.ensures;
      tails = c.tails_are_last_touchers.ensures;
    } in
    let laws = c.step_laws.ensures in
    let sound = c.each_footprint_is_sound.ensures in
    let tails = c.tails_are_last_touchers.ensures in
    let last = c.last_toucher_is_last.ensures in
    let whole = whole-after laws sound tails last day plan made workers some events world e in
    record {
      once = whole.stands.once;
      over = no-task-over laws sound tails last day plan made workers world whole;
      possible = some-possible laws sound tails last day plan made workers world whole;
      bounded = events-bounded laws sound tails last day plan made workers some events world e;
      hands = hands-go-on laws sound tails last day plan made workers world whole;
      closing_once = (ordered-after known day plan made workers some events world e).ordered.once;
      value_once = λ place a on. value-once laws sound tails last day plan made place a on workers world whole;
    }
