use Rattle.std.proofs.Common.{◌≡◌}
use Rattle.reg_regions.specs.Lists.{joined_lists}
use Rattle.reg_regions.proofs.lists.fill.Given as goal

-- the accounts stay
abbrev pub invariant-loop-list : goal.invariant-loop-list
invariant-loop-list l = joined_lists l.cut.items ≡ joined_lists l.fn.cut.items
