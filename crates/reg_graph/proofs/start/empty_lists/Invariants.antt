use Rattle.std.proofs.Common.{◌≡◌, ◌≤◌, [], map}
use Rattle.std.specs.Prelude.{All, replicate}
use Rattle.std.specs.VecDeque.{deque_capacity}
use Rattle.reg_tasks.specs.Tasks.{task_of}
use Rattle.reg_graph.proofs.start.empty_lists.Given as goal

abbrev pub invariant-loop : goal.invariant-loop
invariant-loop g l = record {
  lists : map (λ tasks. map task_of tasks.items) l.lists.items ≡ replicate l.counter [];
  room : All (λ tasks. l.places ≤ deque_capacity tasks) l.lists.items;
}
