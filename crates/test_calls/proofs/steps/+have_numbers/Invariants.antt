use Rattle.std.proofs.Common.{length}
use Rattle.test_calls.proofs.steps.+have_numbers.Given as goal

-- the accounts grow fewer
abbrev pub decreases-have_numbers : goal.decreases-have_numbers
decreases-have_numbers l = length l.accounts.now
