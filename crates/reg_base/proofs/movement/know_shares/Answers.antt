use Rattle.std.proofs.Common.{◌<◌, ◌^◌, arith}
use Rattle.std.proofs.lemmas.List.Elements.{All-map}
use Rattle.reg_base.specs.Numbers.{IsAccountNo}
use Rattle.reg_base.specs.declared.shares.Share.{Share}
use Rattle.reg_base.proofs.movement.know_shares.Goals as goal

pub returns-clause-accounts : goal.returns-clause-accounts
returns-clause-accounts c =
    All-map IsAccountNo (λ (share : Share). share.to) c.args.shares.now
    (λ k d lt. (c.loop-share.invariant k d
    (omega (arith, lt, c.loop-share-test.false, c.loop-share.auto.share-index-end))).0)

pub returns-clause-amounts : goal.returns-clause-amounts
returns-clause-amounts c =
    All-map (λ n. n < 2 ^ 64) (λ (share : Share). share.amount) c.args.shares.now
    (λ k d lt. (c.loop-share.invariant k d
    (omega (arith, lt, c.loop-share-test.false, c.loop-share.auto.share-index-end))).1)
