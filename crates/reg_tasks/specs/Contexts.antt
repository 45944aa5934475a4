-- The day of a context, as plain data.
use Rattle.reg_book.specs.Day.{DayValue, day_of}
use Rattle.reg_tasks.specs.declared.naming.Naming.{Ghosts}
use Rattle.reg_tasks.specs.declared.context.Context.{Context}

module _ {N : Type 0} {b : Ghosts N} where
  -- the book, the rules and the batch
  abbrev pub the_day : Context N b → DayValue
  the_day context = day_of context.book.now context.rules.now context.batch.now
