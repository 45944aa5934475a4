use Rattle.std.proofs.Common.{◌≡◌, ◌++◌, Ok, map}
use Rattle.reg_run.proofs.threads.all_ended.Given as goal

-- what was taken, and what is left, are the whole
abbrev pub invariant-loop-one : goal.invariant-loop-one
invariant-loop-one g l = record {
  can_go : (goal.iterator-loop-one g).can_next l.one-iterator;
  ends : (goal.iterator-loop-one g).is_finite l.one-iterator;
  all : map Ok l.all.items ++ l.one-iterator.rest.items ≡ l.fn.ended.items;
}
