use Rattle.std.proofs.Common.{Some}
use Rattle.reg_book.specs.Day.{day_of}
use Rattle.reg_work.proofs.stealing.settle_with.Given as goal

-- the day is that of the arguments
abbrev pub ghosts-settle_named : goal.ghosts-settle_named
ghosts-settle_named g a = record { day = Some (day_of a.book.now a.rules.now a.batch.now) }
