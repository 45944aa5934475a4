use Rattle.std.proofs.Common.{◌≡◌, ◌+◌, ◌≤◌, vec_len, vec_capacity}
use Rattle.reg_levels.specs.Levels.{places_between, places_of}
use Rattle.reg_levels.proofs.levels.Levels.take.Given as goal

-- the tasks so far are those of the level
abbrev pub invariant-loop : goal.invariant-loop
invariant-loop g l = record {
  context : l.self.slots.context.now ≡ l.initial.self.slots.context.now;
  order : l.self.order ≡ l.initial.self.order;
  laid : l.self.laid ≡ l.initial.self.laid;
  taken : l.self.taken ≡ l.counter;
  room : vec_len l.tasks + l.end ≤ vec_capacity l.tasks + l.self.taken;
  places : places_of l.tasks.items ≡ places_between l.self.order.items l.self.laid l.self.taken;
}
