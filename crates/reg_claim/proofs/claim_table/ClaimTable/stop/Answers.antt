use Rattle.std.proofs.Common.{arith}
use Rattle.reg_claim.proofs.Keeps.{stop-allowed}
use Rattle.reg_claim.proofs.claim_table.ClaimTable.stop.Goals as goal

pub fetch_or-requires : goal.fetch_or-requires
fetch_or-requires c = (c.requires.own, omega (arith, c.args.self.now.wide), stop-allowed _ _ _ _ c.args.seat.now.lives)
