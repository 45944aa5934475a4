use Rattle.std.proofs.Common.{◌≡◌}
use Rattle.reg_claim.specs.Seats.{known, seat_table}
use Rattle.test_claims.proofs.claim_all.Given as goal

abbrev pub invariant-loop-mark : goal.invariant-loop-mark
invariant-loop-mark l = record {
  counted : l.place ≡ l.mark-index;
  first : (seat_table l.first ≡ seat_table l.fn.seat) × ((known l.first).stake ≡ 1);
  second : (seat_table l.second ≡ seat_table l.fn.seat) × ((known l.second).stake ≡ 1);
}
