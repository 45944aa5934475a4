use Rattle.std.proofs.Common.{◌≡◌, ℕ, List, ◌++◌, length, take}
use Rattle.reg_regions.specs.Homes.{AreMarked}
use Rattle.reg_regions.proofs.admission.places.mark_while_new.Given as goal

abbrev pub invariant-loop-place : goal.invariant-loop-place
invariant-loop-place l = record {
  size : length l.marks ≡ length l.initial.marks;
  marked : (done : List ℕ) → AreMarked done l.initial.marks
      → AreMarked (done ++ take l.place-index l.places) l.marks;
}
