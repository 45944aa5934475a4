use Rattle.std.proofs.Common.{length}
use Rattle.reg_claim.specs.Seats.{table_id}
use Rattle.reg_deques.specs.Yards.{deques}
use Rattle.reg_work.proofs.stealing.run_by_stealing.Given as goal

-- the table and the deques are those of the arguments
abbrev pub ghosts-run_workers : goal.ghosts-run_workers
ghosts-run_workers g a = record {
  count = length a.context.now.batch.now.instructions;
  table = table_id a.table;
  deques = deques a.yard;
}
