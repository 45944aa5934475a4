use Rattle.reg_book.specs.Day.{day_of}
use Rattle.reg_schedules.proofs.lemmas.Known.{touched_account}
use Rattle.reg_tasks.proofs.context.Context.open_touched.Goals as goal

pub open-requires : goal.open-requires
open-requires g c = record {
  known = touched_account c.each_footprint_is_sound.ensures
      (day_of c.args.self.now.book.now c.args.self.now.rules.now c.args.self.now.batch.now) c.args.number
      c.requires.touched;
}
