use Rattle.std.proofs.Common.{◌≡◌, ◌≤◌, ◌+◌, ◌++◌, length, take, drop, vec_len, vec_capacity}
use Rattle.reg_tasks.specs.Names.{AreValues}
use Rattle.reg_tasks.specs.Parcels.{values_of, afters_of}
use Rattle.reg_tasks.proofs.run.pack.Given as goal

-- what was packed, and what is left, are the whole
abbrev pub invariant-loop-value : goal.invariant-loop-value
invariant-loop-value g l = record {
  next : (goal.iterator-loop-value g).can_next l.value-iterator;
  ends : (goal.iterator-loop-value g).is_finite l.value-iterator;
  values : values_of l.parcels.items ++ l.value-iterator.rest.items ≡ l.fn.own.items;
  afters : afters_of l.parcels.items ≡ take l.index l.afters;
  size : l.index + length l.value-iterator.rest.items ≡ length l.afters;
  room : vec_len l.parcels + length l.value-iterator.rest.items ≤ vec_capacity l.parcels;
  right : AreValues g.N.Naming.day l.value-iterator.rest.items (drop l.index l.afters);
}
