use Rattle.std.proofs.Common.{◌≡◌, ◌++◌, flat_map, OnOk}
use Rattle.reg_levels.specs.Levels.{places_of, places_run}
use Rattle.reg_work.proofs.level.join_all.Given as goal

-- what was joined, and what is left, are the whole
abbrev pub invariant-loop-handle : goal.invariant-loop-handle
invariant-loop-handle g l = record {
  next : (goal.iterator-loop-handle g).can_next l.handle-iterator;
  ends : (goal.iterator-loop-handle g).is_finite l.handle-iterator;
  places : OnOk l.answer (places_run l.outcomes.items
      ++ places_of (flat_map (λ handle. handle.promise.tasks.value.items) l.handle-iterator.rest.items)
      ≡ places_run l.initial.outcomes.items
      ++ places_of (flat_map (λ handle. handle.promise.tasks.value.items) l.fn.handles.items));
}
