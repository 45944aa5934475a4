use Rattle.std.proofs.Common.{sym}
use Rattle.reg_tasks.proofs.Names.{none_more}
use Rattle.reg_tasks.proofs.needs.find_from.Goals as goal

pub loop-index-preserved : goal.loop-index-preserved
loop-index-preserved g c =
    none_more c.args.parcels.now c.args.from c.loop-index.index c.index-parcels-index.result (
      c.args.account,
      c.args.after,
    ) c.loop-index-test.true c.index-parcels-index.is
    (sym c.if-is_named.ensures) c.loop-index.invariant
