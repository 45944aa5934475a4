use Rattle.std.proofs.Common.{◌≡◌, take, map}
use Rattle.reg_facts.specs.Counting.{total}
use Rattle.reg_graph.specs.WorldParts.{hand_of, task_lists}
use Rattle.reg_schedules.proofs.lemmas.WorldCounts.{in_list, in_hand_once}
use Rattle.reg_graph.proofs.world.World.whereabouts.Given as goal

-- no worker so far has a task of the place
abbrev pub invariant-loop-worker : goal.invariant-loop-worker
invariant-loop-worker g l = record {
  listed : total (total (in_list l.place)) (take l.worker (task_lists l.self.parts.lists.items)) ≡ 0;
  held : total (in_hand_once l.place) (take l.worker (map hand_of l.self.parts.hands.items)) ≡ 0;
}
