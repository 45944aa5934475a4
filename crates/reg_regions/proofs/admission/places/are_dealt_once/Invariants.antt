use Rattle.std.proofs.Common.{◌≡◌, length, take}
use Rattle.reg_regions.specs.Homes.{AreMarked, dealt_places}
use Rattle.reg_regions.proofs.admission.places.are_dealt_once.Given as goal

abbrev pub invariant-loop-deal : goal.invariant-loop-deal
invariant-loop-deal l = record {
  size : length l.marks ≡ length l.initial.marks;
  marked : AreMarked (dealt_places (take l.deal-index l.deals)) l.marks;
}
