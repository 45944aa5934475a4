use Rattle.std.proofs.Common.{◌≡◌, ◌++◌, map}
use Rattle.reg_regions.proofs.running.take_apart.Given as goal

-- what was taken apart, and what is left, are the whole
abbrev pub invariant-loop-one : goal.invariant-loop-one
invariant-loop-one l = record {
  can_go : goal.iterator-loop-one.can_next l.one-iterator;
  ends : goal.iterator-loop-one.is_finite l.one-iterator;
  lists : l.lists.items ++ map (λ s. s.answer.accounts) l.one-iterator.rest.items
      ≡ map (λ s. s.answer.accounts) l.fn.settled.items;
  replies : l.replies.items ++ map (λ s. s.answer.replies) l.one-iterator.rest.items
      ≡ map (λ s. s.answer.replies) l.fn.settled.items;
}
