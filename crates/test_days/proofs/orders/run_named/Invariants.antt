use Rattle.std.proofs.Common.{Some}
use Rattle.reg_book.specs.Day.{day_of}
use Rattle.test_days.proofs.orders.run_named.Given as goal

-- the name is that of the arguments
abbrev pub ghosts-run_under : goal.ghosts-run_under
ghosts-run_under a = record { day = Some (day_of a.book.now a.rules.now a.batch.now) }
