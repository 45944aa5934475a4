use Rattle.std.proofs.Common.{◌≡◌, ◌++◌}
use Rattle.reg_tasks.specs.LastParcels.{parcels_in}
use Rattle.reg_tasks.proofs.gather.last_parcels.Given as goal

-- what was taken, and what is left, are the whole
abbrev pub invariant-loop-parcel : goal.invariant-loop-parcel
invariant-loop-parcel g l = record {
  next : (goal.iterator-loop-parcel g).can_next l.parcel-iterator;
  ends : (goal.iterator-loop-parcel g).is_finite l.parcel-iterator;
  parcels : parcels_in l.lasts.items ++ l.parcel-iterator.rest.items ≡ l.fn.parcels.items;
}
