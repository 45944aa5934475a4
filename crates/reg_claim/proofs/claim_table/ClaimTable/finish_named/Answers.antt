use Rattle.std.proofs.Common.{ℕ, Contains, arith, subst, sym}
use Rattle.reg_claim.specs.Seats.{known}
use Rattle.reg_claim.proofs.Keeps.{finish-allowed}
use Rattle.reg_claim.proofs.claim_table.ClaimTable.finish_named.Goals as goal

pub fetch_add-requires : goal.fetch_add-requires
fetch_add-requires g c =
    let has_it = subst (λ (p : ℕ). Contains (known c.args.seat.now).claimed p)
    (sym c.requires.named) c.requires.claimed in
    let not_yet = subst (λ (p : ℕ). ¬ Contains (known c.args.seat.now).finished p)
    (sym c.requires.named) c.requires.unfinished in (
      c.requires.own,
      omega (arith, c.args.self.now.wide),
      finish-allowed _ _ _ _ g.P.Finished.place c.args.seat.now.lives has_it not_yet,
    )
