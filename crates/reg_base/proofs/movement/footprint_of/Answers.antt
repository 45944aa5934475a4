use Rattle.std.proofs.Common.{◌∙◌, ap, arith}
use Rattle.reg_base.specs.declared.shares.Share.{Share}
use Rattle.reg_base.proofs.Footprints.{one-more, space-left, with-one}
use Rattle.reg_base.proofs.movement.footprint_of.Goals as goal

pub with-footprint-requires-in-loop-share : goal.with-footprint-requires-in-loop-share
with-footprint-requires-in-loop-share c =
    omega (
      arith,
      space-left c.args.first c.args.shares.now c.loop-share.share-index c.loop-share.footprint
          c.loop-share.invariant,
      c.requires,
      c.loop-share-test.true,
    )

pub loop-share-preserved : goal.loop-share-preserved
loop-share-preserved c =
    one-more c.args.first c.args.shares.now c.loop-share.share-index c.share-item.result c.loop-share.footprint
    c.with-footprint-in-loop-share.result c.loop-share-test.true c.loop-share.invariant
    (c.with-footprint-in-loop-share.ensures
    ∙ ap (λ (share : Share). with-one c.loop-share.footprint share.to) c.share-item.is)
