use Rattle.std.proofs.Common.{arith, rules}
use Rattle.reg_claim.proofs.Closing.{Tallied, tallied}
use Rattle.reg_claim.specs.Seats.{known, places}
use Rattle.reg_claim.proofs.claim_table.ClaimTable.close.Goals as goal
use Rattle.reg_claim.proofs.claim_table.ClaimTable.close.Goals.{After-word-found}

told : (c : After-word-found) → Tallied (places c.args.self) c.word-found.result (known c.args.seat)
told c = tallied _ c.args.seat.seat.id _ _ _ _ c.requires.last c.close_with-closed.ensures.values.2 c.word-found.ensures

pub free-requires : goal.free-requires
free-requires c k h = absurd (omega (arith, c.close_with-closed.ensures.counts.1, c.args.self.no_slots))

pub overflow_cast-done : goal.overflow_cast-done
overflow_cast-done c = let h = (told (goal.at.overflow_cast-done c).After-word-found).small in search rules

pub returns : goal.returns
returns c =
    let told = told (goal.at.returns c).After-word-found in
    let most = told.most in
    let seen = told.seen in
    record {
      done = told.done;
      most = most;
      seen = omega arith;
      stopped = told.stopped;
      no_repeat = told.no_repeat;
      within = told.within;
      all = told.all;
    }
