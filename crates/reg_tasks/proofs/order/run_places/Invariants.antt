use Rattle.std.proofs.Common.{◌≡◌, ◌+◌, ◌≤◌, take, length, vec_len, vec_capacity}
use Rattle.reg_tasks.specs.Contexts.{the_day}
use Rattle.reg_tasks.specs.Gathering.{places_of}
use Rattle.reg_tasks.specs.Slots.{AreStanding}
use Rattle.reg_tasks.specs.Standing.{stands}
use Rattle.reg_tasks.proofs.order.run_places.Given as goal

-- what was done so far
abbrev pub invariant-loop-place : goal.invariant-loop-place
invariant-loop-place g l = record {
  context : l.slots.context.now ≡ l.initial.slots.context.now;
  room : vec_len l.done + length l.order ≤ vec_capacity l.done + l.place-index;
  places : places_of l.done.items ≡ take l.place-index l.order;
  standing : AreStanding g.N.Naming.day (the_day l.slots.context.now) (take l.place-index l.order) (stands l.slots);
}
