use Rattle.std.specs.Prelude.{All, Contains}
use Rattle.reg_regions.specs.Dealing.{AreLeftOf}
use Rattle.reg_regions.specs.Lists.{joined_lists}
use Rattle.reg_regions.proofs.running.replies.from_the_first.Given as goal

abbrev pub invariant-loop-region : goal.invariant-loop-region
invariant-loop-region l = record {
  can_go : goal.iterator-loop-region.can_next l.region-iterator;
  ends : goal.iterator-loop-region.is_finite l.region-iterator;
  left : AreLeftOf (joined_lists l.fn.regions.items) l.left.items;
  rest : All (λ v. All (Contains (joined_lists l.fn.regions.items)) v.items) l.region-iterator.rest.items;
}
