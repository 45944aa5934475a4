use Rattle.reg_claim.specs.Seats.{table_id}
use Rattle.reg_deques.specs.Yards.{deques}
use Rattle.reg_run.proofs.running.run.Given as goal

-- the table and the deques are those of the arguments
abbrev pub ghosts-run_dealt : goal.ghosts-run_dealt
ghosts-run_dealt g a = record { count = g.D.Do.count a.doing.now; table = table_id a.table; deques = deques a.yard }
