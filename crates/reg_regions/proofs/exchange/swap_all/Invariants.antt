use Rattle.std.proofs.Common.{◌≡◌, take}
use Rattle.reg_regions.specs.Lists.{joined_lists, sizes_of}
use Rattle.reg_regions.specs.Swaps.{exchanged}
use Rattle.reg_regions.proofs.exchange.swap_all.Given as goal

abbrev pub invariant-loop-swap : goal.invariant-loop-swap
invariant-loop-swap g l = record {
  so_far : joined_lists l.lists ≡ exchanged (take l.swap-index l.swaps) (joined_lists l.initial.lists);
  sizes : sizes_of l.lists ≡ sizes_of l.initial.lists;
}
