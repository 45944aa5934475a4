use Rattle.std.proofs.Common.{◌≡◌, ◌≤◌, ◌+◌, ◌++◌, flat_map, length, vec_len, vec_capacity}
use Rattle.reg_facts.specs.Lists.{joined_lists}
use Rattle.reg_work.proofs.level.start_all.Given as goal

-- what was started, and what is left, are the whole
abbrev pub invariant-loop-part : goal.invariant-loop-part
invariant-loop-part g l = record {
  next : (goal.iterator-loop-part g).can_next l.part-iterator;
  ends : (goal.iterator-loop-part g).is_finite l.part-iterator;
  room : vec_len l.handles + length l.part-iterator.rest.items ≤ vec_capacity l.handles;
  tasks : flat_map (λ handle. handle.promise.tasks.value.items) l.handles.items
      ++ joined_lists l.part-iterator.rest.items
      ≡ joined_lists l.fn.parts.items;
}
