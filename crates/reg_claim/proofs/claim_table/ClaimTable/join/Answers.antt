use Rattle.std.proofs.Common.{arith}
use Rattle.reg_claim.proofs.Keeps.{join-allowed}
use Rattle.reg_claim.proofs.claim_table.ClaimTable.join.Goals as goal

pub join_seat-requires : goal.join_seat-requires
join_seat-requires c = (
  c.requires.own,
  c.requires.other,
  c.args.other.empty,
  omega (arith, c.args.self.now.wide),
  join-allowed _ _ _ _ _ c.args.seat.lives,
)
