use Rattle.std.proofs.Common.{◌≡◌}
use Rattle.reg_levels.specs.Levels.{places_between, places_run}
use Rattle.reg_levels.proofs.levels.Levels.lay.Given as goal

-- the outcomes that are left are those of the tasks that run
abbrev pub invariant-loop-outcome : goal.invariant-loop-outcome
invariant-loop-outcome g l = record {
  next : (goal.iterator-loop-outcome g).can_next l.outcome-iterator;
  ends : (goal.iterator-loop-outcome g).is_finite l.outcome-iterator;
  context : l.self.slots.context.now ≡ l.initial.self.slots.context.now;
  order : l.self.order ≡ l.initial.self.order;
  taken : l.self.taken ≡ l.initial.self.taken;
  places : places_run l.outcome-iterator.rest.items ≡ places_between l.self.order.items l.self.laid l.self.taken;
}
