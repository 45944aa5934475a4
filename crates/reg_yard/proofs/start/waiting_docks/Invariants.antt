use Rattle.std.proofs.Common.{◌≡◌, ◌+◌, ◌-◌, ◌≤◌, ◌++◌}
use Rattle.reg_base.specs.Rising.{count_up}
use Rattle.reg_yard.specs.Docks.{dock_places}
use Rattle.reg_yard.proofs.start.waiting_docks.Given as goal

-- the docks so far, and those that come, are all
abbrev pub invariant-loop-before : goal.invariant-loop-before
invariant-loop-before g l = record {
  few : l.before ≤ l.places;
  docks : dock_places l.docks.items ++ count_up (l.before + 1) (l.places - l.before) ≡ count_up 1 l.places;
}
