use Rattle.std.proofs.Common.{subst, arith}
use Rattle.std.specs.Prelude.{All}
use Rattle.std.proofs.lemmas.List.{take_all}
use Rattle.std.proofs.lemmas.List.Elements.{All-more}
use Rattle.reg_regions.specs.Swaps.{IsSwapWithin}
use Rattle.reg_regions.proofs.admission.are_within.Goals as goal

pub loop-swap-preserved : goal.loop-swap-preserved
loop-swap-preserved c =
    All-more (IsSwapWithin c.args.count) c.args.swaps.now c.loop-swap.swap-index (record { one = 0; other = 0 })
    c.loop-swap-test.true c.loop-swap.invariant (c.is_within.ensures c.if-not-is_within.false)

pub returns : goal.returns
returns c truth =
    subst (All (IsSwapWithin c.args.count)) (take_all c.loop-swap.swap-index c.args.swaps.now (omega arith))
    c.loop-swap.invariant
