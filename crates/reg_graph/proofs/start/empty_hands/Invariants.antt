use Rattle.std.proofs.Common.{◌≡◌, map}
use Rattle.std.specs.Prelude.{replicate}
use Rattle.reg_schedules.specs.World.{empty}
use Rattle.reg_graph.specs.WorldParts.{hand_of}
use Rattle.reg_graph.proofs.start.empty_hands.Given as goal

abbrev pub invariant-loop : goal.invariant-loop
invariant-loop g l = map hand_of l.hands.items ≡ replicate l.counter empty
