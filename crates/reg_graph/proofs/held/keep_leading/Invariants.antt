use Rattle.std.proofs.Common.{◌≡◌, ◌≤◌, ◌+◌, ◌++◌, not, length, map, vec_len, vec_capacity}
use Rattle.std.specs.Prelude.{filter}
use Rattle.reg_schedules.specs.Pool.{leads_on}
use Rattle.reg_tasks.specs.Parcels.{parcels_of}
use Rattle.reg_graph.proofs.held.keep_leading.Given as goal

-- what was kept and closed, and what is still to come, are the whole
abbrev pub invariant-loop-parcel : goal.invariant-loop-parcel
invariant-loop-parcel g l = record {
  next : (goal.iterator-loop-parcel g).can_next l.parcel-iterator;
  ends : (goal.iterator-loop-parcel g).is_finite l.parcel-iterator;
  low : 1 ≤ l.place;
  high : l.place ≤ length l.context.batch.now.instructions;
  kept : parcels_of l.kept.items ++ filter (λ p. leads_on l.context.plan l.place p.value.number)
      (parcels_of l.parcel-iterator.rest.items)
      ≡ filter (λ p. leads_on l.context.plan l.place p.value.number) (parcels_of l.fn.parcels.items);
  closing : l.closing.items
      ++ map (λ p. p.value) (filter (λ p. not (leads_on l.context.plan l.place p.value.number))
      (parcels_of l.parcel-iterator.rest.items))
      ≡ l.initial.closing.items
      ++ map (λ p. p.value) (filter (λ p. not (leads_on l.context.plan l.place p.value.number))
      (parcels_of l.fn.parcels.items));
  fits : vec_len l.kept + length l.parcel-iterator.rest.items ≤ vec_capacity l.kept;
  room : vec_len l.closing + length l.parcel-iterator.rest.items ≤ vec_capacity l.closing;
}
