use Rattle.std.proofs.Common.{arith}
use Rattle.reg_claim.proofs.Keeps.{look-allowed}
use Rattle.reg_claim.proofs.claim_table.ClaimTable.look.Goals as goal

pub load-found-requires : goal.load-found-requires
load-found-requires c = (
  c.requires.own,
  omega (arith, c.args.self.now.wide),
  look-allowed _ _ _ _ c.args.seat.now.lives,
)
