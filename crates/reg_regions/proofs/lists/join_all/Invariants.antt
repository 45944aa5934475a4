use Rattle.std.proofs.Common.{◌≡◌, ◌++◌}
use Rattle.reg_regions.specs.Lists.{joined_lists}
use Rattle.reg_regions.proofs.lists.join_all.Given as goal

-- what was joined, and what is left, are the whole
abbrev pub invariant-loop-list : goal.invariant-loop-list
invariant-loop-list l = record {
  next : goal.iterator-loop-list.can_next l.list-iterator;
  ends : goal.iterator-loop-list.is_finite l.list-iterator;
  items : l.all.items ++ joined_lists l.list-iterator.rest.items ≡ joined_lists l.fn.lists.items;
}
