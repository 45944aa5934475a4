use Rattle.std.proofs.Common.{◌≡◌, ◌≤◌, ◌+◌, map, length, vec_len, vec_capacity}
use Rattle.reg_facts.specs.Lists.{first_numbers}
use Rattle.reg_work.proofs.threads.start_all.Given as goal

-- so many were started, from worker 0 on
abbrev pub invariant-loop-worker : goal.invariant-loop-worker
invariant-loop-worker g l = record {
  can_go : (goal.iterator-loop-worker g).can_next l.worker-iterator;
  ends : (goal.iterator-loop-worker g).is_finite l.worker-iterator;
  room : vec_len l.handles + length l.worker-iterator.rest.items ≤ vec_capacity l.handles;
  counted : l.next ≡ vec_len l.handles;
  whole : l.next + length l.worker-iterator.rest.items ≡ vec_len l.fn.unstarted;
  workers : map (λ handle. handle.promise.number) l.handles.items ≡ first_numbers l.next;
}
