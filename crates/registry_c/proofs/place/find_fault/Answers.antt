-- What was read of the bytes is what is told of them.
use Rattle.std.proofs.Common.{Some, subst}
use Rattle.reg_cuts.specs.Rows.{rows_in_text}
use Rattle.reg_text.specs.Faults.{AnswersFault, day_of_rows}
use Rattle.reg_text.specs.declared.cause.DayFault.{DayFault}
use Rattle.reg_text.specs.declared.cause.DayFault.TheVariants.{Row, NoMemory}
use Rattle.registry_c.proofs.place.find_fault.Goals as goal

pub returns-in-Err-NoMemory : goal.returns-in-Err-NoMemory
returns-in-Err-NoMemory c = (Some NoMemory, tt, c.without_row-in-Err-NoMemory.ensures)

pub returns-in-Ok-find_field : goal.returns-in-Ok-find_field
returns-in-Ok-find_field c = (
  Some (Row c.in-Err-Row.row c.in-Err-Row.cause),
  subst (λ (fault : DayFault). AnswersFault fault (day_of_rows (rows_in_text c.args.day.now))) c.in-Err-Row.field-0-is
      c.in-Err-Row.ensures.exact,
  c.place_of.ensures,
)

pub returns-in-Err : goal.returns-in-Err
returns-in-Err c = (Some NoMemory, tt, c.without_row-in-Err.ensures)
