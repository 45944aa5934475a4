use Rattle.std.proofs.Common.{◌≡◌, map}
use Rattle.reg_base.specs.Rising.{count_up}
use Rattle.test_claims.proofs.running.make_jobs.Given as goal

abbrev pub invariant-loop-before : goal.invariant-loop-before
invariant-loop-before l = record {
  jobs : map (λ j. j.number) l.jobs.items ≡ count_up 1 l.before;
}
