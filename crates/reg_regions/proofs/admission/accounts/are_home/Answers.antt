use Rattle.std.proofs.Common.{◌≡◌, ◌<◌, true, length, get_or, below_more, subst, arith}
use Rattle.reg_rules.specs.State.{numbers}
use Rattle.reg_regions.specs.Homes.{IsHome}
use Rattle.reg_regions.proofs.AtHome.{rising-more, indexes-at}
use Rattle.reg_regions.proofs.admission.accounts.are_home.Goals as goal

pub loop-index-preserved : goal.loop-index-preserved
loop-index-preserved c =
    let setting = c.args.setting.now in
    let before = c.loop-index.invariant in
    let k = c.loop-index.index in
    let within : k < length c.args.places.now = omega arith in
    let inside : k < length c.args.indexes.now = c.if-index-indexes.false in
    let grown = rising-more c.args.places.now k c.loop-index.last within c.if-place-last.false before.rising
    before.low in
    let truth : c.is_home.result ≡ true = c.if-not-is_home.false in
    record {
      rising = grown.0;
      low = grown.1;
      each = below_more _ _ before.each
          (subst (IsHome setting c.args.batch.now (numbers c.args.accounts.now) (get_or c.args.places.now k 0))
          (indexes-at c.args.indexes.now k c.index-indexes-index.result inside c.index-indexes-index.is)
          (c.is_home.ensures truth));
      as_many = omega (arith, inside);
    }
