use Rattle.std.proofs.Common.{◌<◌, arith, rules}
use Rattle.reg_book.proofs.Orders.{gt_of}
use Rattle.reg_book.proofs.Overlays.{one_lower}
use Rattle.reg_book.proofs.book.count_not_higher.Goals as goal

pub loop-count-preserved : goal.loop-count-preserved
loop-count-preserved c =
    let some : 0 < c.loop-count.count = search rules in
    record {
      within = omega (arith, c.loop-count.invariant.within);
      higher = one_lower c.args.accounts.now c.loop-count.count c.args.number c.index-accounts-count.result
          c.number.result some c.loop-count.invariant.within
          c.index-accounts-count.is c.number.ensures (gt_of c.number.result c.args.number c.if-gt.ensures)
          c.loop-count.invariant.higher;
    }
