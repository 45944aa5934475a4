use Rattle.std.proofs.Common.{◌≡◌, ◌++◌}
use Rattle.reg_facts.specs.Lists.{joined_lists}
use Rattle.reg_work.proofs.tally.join_parts.Given as goal

-- what was joined, and what is left, are the whole
abbrev pub invariant-loop-part : goal.invariant-loop-part
invariant-loop-part g l = record {
  next : (goal.iterator-loop-part g).can_next l.part-iterator;
  ends : (goal.iterator-loop-part g).is_finite l.part-iterator;
  items : l.all.items ++ joined_lists l.part-iterator.rest.items ≡ joined_lists l.fn.parts.items;
}
