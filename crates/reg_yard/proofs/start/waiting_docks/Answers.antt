use Rattle.std.proofs.Common.{◌≡◌, length, arith, rules, ap, ◌∙◌}
use Rattle.reg_base.specs.Rising.{count_up}
use Rattle.reg_yard.proofs.Starting.{docked-more, all-docked}
use Rattle.reg_yard.proofs.start.waiting_docks.Goals as goal

pub loop-before-preserved : goal.loop-before-preserved
loop-before-preserved g c =
    let n = c.len-places.result in
    let k = c.loop-before.before in
    record {
      few = omega (arith, c.loop-before-test.true);
      docks = docked-more n k c.loop-before.docks.items c.push.new.self.items c.new.result
          (count_up 1 n) c.loop-before-test.true c.in_ok-push.ensures.items
          (c.new.ensures ∙ c.in_ok-waiting_dock.ensures.place) c.loop-before.invariant.docks;
    }

pub returns : goal.returns
returns g c =
    let n = c.len-places.result in
    let size : n ≡ length c.args.context.now.batch.now.instructions = search rules in
    all-docked n c.loop-before.before c.loop-before.docks.items (count_up 1 n) c.loop-before-test.false
    c.loop-before.invariant.docks ∙ ap (count_up 1) size
