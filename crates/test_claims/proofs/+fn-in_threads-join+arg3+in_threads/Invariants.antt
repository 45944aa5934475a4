use Rattle.std.proofs.Common.{◌+◌, ◌*◌}
use Rattle.test_claims.proofs.+fn-in_threads-join+arg3+in_threads.Given as goal

abbrev pub decreases-join+arg3 : goal.decreases-join+arg3
decreases-join+arg3 g l = 2 * l.threads

abbrev pub decreases-in_threads : goal.decreases-in_threads
decreases-in_threads g l = 2 * l.threads + 1
