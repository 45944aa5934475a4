use Rattle.std.proofs.Common.{arith, refl, ap, ◌∙◌}
use Rattle.reg_facts.specs.Counting.{times}
use Rattle.reg_book.specs.Day.{log_of}
use Rattle.reg_work.specs.Shifts.{places_ran}
use Rattle.reg_work.proofs.Ordered.{once-none, one-ran, row-more, row-next}
use Rattle.reg_work.proofs.alone.run_in_order.Goals as goal

pub loop-before-init : goal.loop-before-init
loop-before-init g c =
    record {
      few = omega arith;
      context = refl;
      each_once = λ p. ap (λ rs. times p (places_ran rs)) c.in_ok-ran.ensures.items ∙ once-none p;
      log = λ d e. c.in_ok-log.ensures.items;
    }

pub loop-before-preserved : goal.loop-before-preserved
loop-before-preserved g c =
    record {
      few = omega (arith, c.loop-before-test.true);
      context = c.run_at.ensures.context ∙ c.loop-before.invariant.context;
      each_once = λ p. one-ran c.loop-before.before p c.keep.new.items.items c.loop-before.ran.items c.in_ok-one.one
          c.in_ok-keep.ensures c.in_ok-one.ensures.place (c.loop-before.invariant.each_once p);
      log = λ d e. row-more (log_of d) c.loop-before.before c.loop-before.log.items
          c.keep-in-loop-before.new.items.items c.in_ok-one.row c.in_ok-keep-2.ensures (c.loop-before.invariant.log d e)
          (row-next d c.loop-before.before c.in_ok-one.row (c.in_ok-one.ensures.row d e));
    }
