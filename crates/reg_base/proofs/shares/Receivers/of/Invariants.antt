use Rattle.std.proofs.Common.{◌≡◌, take}
use Rattle.reg_base.proofs.shares.Receivers.of.Given as goal

abbrev pub invariant-loop-share : goal.invariant-loop-share
invariant-loop-share l = l.receivers ≡ take l.share-index l.shares
