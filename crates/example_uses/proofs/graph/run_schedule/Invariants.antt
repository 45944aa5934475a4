use Rattle.std.proofs.Common.{◌≡◌}
use Rattle.example_uses.proofs.graph.run_schedule.Given as goal

-- the world stays that of the day
abbrev pub invariant-loop-event : goal.invariant-loop-event
invariant-loop-event g l = l.world.context.now ≡ l.fn.context
