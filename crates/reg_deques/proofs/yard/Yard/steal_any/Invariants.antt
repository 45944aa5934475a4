use Rattle.std.proofs.Common.{◌≡◌}
use Rattle.reg_deques.specs.Yards.{deques_of_pass, views, worker_of}
use Rattle.reg_deques.proofs.yard.Yard.steal_any.Given as goal

-- nothing was taken so far
abbrev pub invariant-loop-from : goal.invariant-loop-from
invariant-loop-from g l = record {
  worker : worker_of l.pass ≡ l.own;
  same : worker_of l.pass ≡ worker_of l.initial.pass;
  of : deques_of_pass l.pass ≡ deques_of_pass l.initial.pass;
  nothing : views l.pass ≡ views l.initial.pass;
}
