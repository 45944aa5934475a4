use Rattle.std.proofs.Common.{◌≡◌, ◌≤◌, ◌+◌, ◌++◌, length, map, vec_len, vec_capacity}
use Rattle.std.specs.List.{AllByRecursion}
use Rattle.reg_tasks.specs.Names.{IsValue}
use Rattle.reg_tasks.specs.Parcels.{values_of, afters_of}
use Rattle.reg_tasks.proofs.run.pack_after.Given as goal

-- what was packed, and what is left, are the whole
abbrev pub invariant-loop-value : goal.invariant-loop-value
invariant-loop-value g l = record {
  next : (goal.iterator-loop-value g).can_next l.value-iterator;
  ends : (goal.iterator-loop-value g).is_finite l.value-iterator;
  values : values_of l.parcels.items ++ l.value-iterator.rest.items ≡ l.fn.own.items;
  afters : afters_of l.parcels.items ++ map (λ v. l.place) l.value-iterator.rest.items
      ≡ map (λ v. l.place) l.fn.own.items;
  room : vec_len l.parcels + length l.value-iterator.rest.items ≤ vec_capacity l.parcels;
  right : AllByRecursion (λ v. IsValue g.N.Naming.day v l.place) l.value-iterator.rest.items;
}
