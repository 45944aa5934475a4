use Rattle.reg_claim.proofs.claim_table.ClaimTable.finish.Given as goal

abbrev pub ghosts-finish_named : goal.ghosts-finish_named
ghosts-finish_named a = record { place = a.place }
