use Rattle.std.proofs.Common.{◌≡◌, ◌++◌}
use Rattle.reg_tasks.specs.LastParcels.{parcels_in}
use Rattle.reg_tasks.specs.Parcels.{values_of}
use Rattle.reg_tasks.proofs.gather.values.Given as goal

-- what was moved out, and what is left, are the whole
abbrev pub invariant-loop-parcel : goal.invariant-loop-parcel
invariant-loop-parcel g l = record {
  next : (goal.iterator-loop-parcel g).can_next l.parcel-iterator;
  ends : (goal.iterator-loop-parcel g).is_finite l.parcel-iterator;
  values : l.accounts.items ++ values_of (parcels_in l.parcel-iterator.rest.items)
      ≡ values_of (parcels_in l.fn.parcels.items);
}
