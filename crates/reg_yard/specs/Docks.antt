-- Which docks stand side by side.
use Rattle.std.specs.Prelude.{ℕ, List, map}
use Rattle.reg_tasks.specs.declared.naming.Naming.{Ghosts}
use Rattle.reg_yard.specs.declared.locked.LockedDock.{LockedDock}

module _ {N : Type 0} {b : Ghosts N} where
  -- the places whose docks they are. They stand outside of the locks
  abbrev pub dock_places : List (LockedDock N b) → List ℕ
  dock_places docks = map (λ dock. dock.place) docks
