use Rattle.std.proofs.Common.{◌≡◌, ◌∷◌, map, take}
use Rattle.reg_base.specs.Footprint.{each_once}
use Rattle.reg_base.proofs.movement.footprint_of.Given as goal

abbrev pub invariant-loop-share : goal.invariant-loop-share
invariant-loop-share l = l.footprint ≡ each_once (l.fn.first ∷ map (λ share. share.to) (take l.share-index l.shares))
