use Rattle.std.proofs.Common.{◌≡◌, ◌≤◌, drop, length}
use Rattle.reg_regions.specs.Lists.{joined_lists, sizes_of}
use Rattle.reg_regions.specs.Swaps.{exchanged_back}
use Rattle.reg_regions.proofs.exchange.swap_back.Given as goal

abbrev pub invariant-loop-left : goal.invariant-loop-left
invariant-loop-left g l = record {
  within : l.left ≤ length l.swaps;
  so_far : joined_lists l.lists ≡ exchanged_back (drop l.left l.swaps) (joined_lists l.initial.lists);
  sizes : sizes_of l.lists ≡ sizes_of l.initial.lists;
}

abbrev pub decreases-loop-left : goal.decreases-loop-left
decreases-loop-left g l = l.left
