use Rattle.std.proofs.Common.{◌<◌, length, rules, arith, ap}
use Rattle.reg_book.proofs.Footprints.{known-more, unknown-one}
use Rattle.reg_book.proofs.Standing.{StandsAt, stands-at}
use Rattle.reg_book.proofs.Ranks.{stand-more}
use Rattle.reg_book.proofs.indexes.find_indexes.Goals as goal

pub returns-in-None-clause-known : goal.returns-in-None-clause-known
returns-in-None-clause-known c =
    let within : c.loop-number.number-index < length c.args.wanted.now = search rules in
    unknown-one c.args.accounts.now c.args.wanted.now c.loop-number.number-index c.number-item.result within
    c.number-item.is c.in-None.ensures

pub overflow_cast-index : goal.overflow_cast-index
overflow_cast-index c =
    let stands = stands-at c.args.accounts.now c.in-Some.index c.number-item.result c.in-Some.ensures in
    omega (arith, stands.within, c.requires.few)

pub loop-number-preserved : goal.loop-number-preserved
loop-number-preserved c =
    let within : c.loop-number.number-index < length c.args.wanted.now = search rules in
    let stands : StandsAt c.args.accounts.now c.in-Some.index c.number-item.result =
    stands-at c.args.accounts.now c.in-Some.index c.number-item.result c.in-Some.ensures in
    record {
      there = stand-more c.args.accounts.now c.loop-number.indexes.items c.push.new.self.items c.args.wanted.now
          c.loop-number.number-index c.number-item.result c.in-Some.index
          within c.number-item.is c.push.ensures.items stands c.loop-number.invariant.there;
      known = known-more c.args.accounts.now c.args.wanted.now c.loop-number.number-index c.number-item.result
          c.in-Some.index within c.number-item.is stands c.loop-number.invariant.known;
      so_many = omega (arith, ap length c.push.ensures.items, c.push.ensures.len, c.loop-number.invariant.so_many);
    }
