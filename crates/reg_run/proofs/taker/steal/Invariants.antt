use Rattle.std.proofs.Common.{◌≡◌}
use Rattle.reg_deques.specs.Yards.{deques_of_pass, views, worker_of}
use Rattle.reg_run.proofs.taker.steal.Given as goal

abbrev pub invariant-loop-look : goal.invariant-loop-look
invariant-loop-look g l = record {
  worker : worker_of l.pass ≡ worker_of l.initial.pass;
  of : deques_of_pass l.pass ≡ deques_of_pass l.initial.pass;
  nothing : views l.pass ≡ views l.initial.pass;
}
