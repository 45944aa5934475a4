use Rattle.std.proofs.Common.{◌≡◌, ◌++◌, map, Some}
use Rattle.std.specs.List.{list_all}
use Rattle.std.specs.Option.{option_map}
use Rattle.reg_tasks.specs.Contexts.{the_day}
use Rattle.reg_tasks.specs.Gathering.{is_last_there}
use Rattle.reg_tasks.specs.LastParcels.{parcels_in}
use Rattle.reg_tasks.specs.Parcels.{names_of}
use Rattle.reg_tasks.specs.Slots.{name_of}
use Rattle.reg_tasks.proofs.slot.empty_slots.Given as goal

-- what was taken out, and what is left, are the whole; what is left is last if all is
abbrev pub invariant-loop-slot : goal.invariant-loop-slot
invariant-loop-slot g l = record {
  next : (goal.iterator-loop-slot g).can_next l.slot-iterator;
  ends : (goal.iterator-loop-slot g).is_finite l.slot-iterator;
  names : map Some (names_of (parcels_in l.lasts.items)) ++ map (option_map name_of) l.slot-iterator.rest.items
      ≡ map (option_map name_of) l.fn.slots.items;
  last : list_all (is_last_there (the_day l.context) l.context.plan)
      (map (option_map name_of) l.slot-iterator.rest.items)
      ≡ list_all (is_last_there (the_day l.context) l.context.plan) (map (option_map name_of) l.fn.slots.items);
}
