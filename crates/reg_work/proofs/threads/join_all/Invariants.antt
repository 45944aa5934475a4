use Rattle.std.proofs.Common.{◌≡◌, ◌≤◌, ◌+◌, ◌++◌, map, length, vec_len, vec_capacity}
use Rattle.reg_work.specs.EndedWorkers.{ended_numbers}
use Rattle.reg_work.proofs.threads.join_all.Given as goal

-- what was joined, and what is left, are the whole
abbrev pub invariant-loop-handle : goal.invariant-loop-handle
invariant-loop-handle g l = record {
  can_go : (goal.iterator-loop-handle g).can_next l.handle-iterator;
  ends : (goal.iterator-loop-handle g).is_finite l.handle-iterator;
  room : vec_len l.ended_workers + length l.handle-iterator.rest.items + 1 ≤ vec_capacity l.ended_workers;
  each : vec_len l.ended_workers + length l.handle-iterator.rest.items ≡ vec_len l.fn.handles;
  workers : ended_numbers l.ended_workers.items ++ map (λ handle. handle.promise.number) l.handle-iterator.rest.items
      ≡ map (λ handle. handle.promise.number) l.fn.handles.items;
}
