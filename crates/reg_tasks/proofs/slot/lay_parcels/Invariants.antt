use Rattle.std.proofs.Common.{◌≡◌, ℕ, length}
use Rattle.std.specs.List.{list_all}
use Rattle.reg_base.specs.Footprint.{is_among}
use Rattle.reg_tasks.specs.Parcels.{names_of}
use Rattle.reg_tasks.specs.Slots.{opened_accounts, standing_in, laid_at}
use Rattle.reg_tasks.proofs.slot.lay_parcels.Given as goal

-- what is left lays as all do
abbrev pub invariant-loop-parcel : goal.invariant-loop-parcel
invariant-loop-parcel g l = record {
  next : (goal.iterator-loop-parcel g).can_next l.parcel-iterator;
  ends : (goal.iterator-loop-parcel g).is_finite l.parcel-iterator;
  size : length l.slots ≡ length l.openings;
  there : list_all (λ n. is_among (opened_accounts l.openings) n.0) (names_of l.parcel-iterator.rest.items)
      ≡ list_all (λ n. is_among (opened_accounts l.openings) n.0) (names_of l.fn.parcels.items);
  laid : (b : ℕ) → laid_at (names_of l.parcel-iterator.rest.items) (standing_in l.openings l.slots b) b
      ≡ laid_at (names_of l.fn.parcels.items) (standing_in l.openings l.initial.slots b) b;
}
