use Rattle.std.proofs.Common.{rules, ◌/◌, ◌%◌}
use Rattle.reg_work.proofs.Dividing.{left_after, one_more, even_more}
use Rattle.reg_work.proofs.division.divide.Goals as goal

pub loop-index-preserved : goal.loop-index-preserved
loop-index-preserved g c = let i = c.loop-index.invariant in record {
  made = search rules;
  left = left_after c.args.count (c.len.result / c.args.count) (c.len-2.result % c.args.count) c.loop-index.index _ _ _
      c.loop-index-test.true i.left c.size_of.ensures.left c.in_ok-after.ensures.tail_len;
  few = i.few;
  whole = one_more c.loop-index.parts.items c.push.new.self.items c.split_off.new.self c.in_ok-after.after _
      c.loop-index.rest.items c.args.items.items c.in_ok-push.ensures.items c.in_ok-after.ensures.items
      c.in_ok-after.ensures.tail i.whole;
  even = even_more (c.len.result / c.args.count) c.loop-index.parts.items c.push.new.self.items c.split_off.new.self
      c.in_ok-push.ensures.items i.even (rw c.in_ok-after.ensures.len c.size_of.ensures.even);
}

pub returns-clause-even : goal.returns-clause-even
returns-clause-even g c = (c.len.result / c.args.count, c.loop-index.invariant.even)
