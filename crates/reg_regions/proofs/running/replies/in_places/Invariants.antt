use Rattle.reg_regions.specs.Dealing.{AreInPlaces, AreLeftOf}
use Rattle.reg_regions.specs.Lists.{joined_lists}
use Rattle.reg_regions.proofs.running.replies.in_places.Given as goal

abbrev pub invariant-loop-before : goal.invariant-loop-before
invariant-loop-before l = record {
  left : AreLeftOf (joined_lists l.fn.regions.items) l.left.items;
  so_far : AreInPlaces l.before (joined_lists l.fn.regions.items) l.replies.items;
}
