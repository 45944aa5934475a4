use Rattle.std.proofs.Common.{◌≡◌, ◌≤◌, ◌+◌, ◌++◌, length, vec_len, vec_capacity}
use Rattle.reg_base.specs.declared.limits.TheConstants.{MOST_TOUCHED}
use Rattle.reg_tasks.specs.Parcels.{values_of, afters_of}
use Rattle.reg_tasks.proofs.run.unpack.Given as goal

-- what was unpacked, and what is left, are the whole
abbrev pub invariant-loop-parcel : goal.invariant-loop-parcel
invariant-loop-parcel g l = record {
  next : (goal.iterator-loop-parcel g).can_next l.parcel-iterator;
  ends : (goal.iterator-loop-parcel g).is_finite l.parcel-iterator;
  values : l.own.items ++ values_of l.parcel-iterator.rest.items ≡ values_of l.fn.parcels.items;
  afters : l.afters.items ++ afters_of l.parcel-iterator.rest.items ≡ afters_of l.fn.parcels.items;
  room : vec_len l.own + length l.parcel-iterator.rest.items ≤ vec_capacity l.own;
  few : length l.afters.items + length l.parcel-iterator.rest.items ≤ MOST_TOUCHED;
}
