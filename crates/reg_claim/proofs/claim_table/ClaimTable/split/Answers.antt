use Rattle.std.proofs.Common.{arith}
use Rattle.reg_claim.proofs.Keeps.{split-allowed}
use Rattle.reg_claim.proofs.claim_table.ClaimTable.split.Goals as goal

pub split_seat-other-requires : goal.split_seat-other-requires
split_seat-other-requires c =
    (c.requires.own, omega (arith, c.args.self.now.wide), split-allowed _ _ _ c.requires.stake)
