use Rattle.std.proofs.Common.{take}
use Rattle.std.specs.Prelude.{All}
use Rattle.reg_regions.specs.Swaps.{IsSwapWithin}
use Rattle.reg_regions.proofs.admission.are_within.Given as goal

abbrev pub invariant-loop-swap : goal.invariant-loop-swap
invariant-loop-swap l = All (IsSwapWithin l.count) (take l.swap-index l.swaps)
