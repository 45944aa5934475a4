use Rattle.std.proofs.Common.{ap, ◌∙◌}
use Rattle.reg_book.specs.Day.{day_of, log_of}
use Rattle.reg_schedules.specs.World.{known_of}
use Rattle.reg_graph.proofs.PartFacts.{known-all}
use Rattle.reg_graph.proofs.world.World.into_settled.Goals as goal

pub settle_day-requires-clause-log : goal.settle_day-requires-clause-log
settle_day-requires-clause-log g c =
    c.move_rows.ensures ∙ ap known_of c.is_settled.ensures.rows
    ∙ known-all (log_of (day_of c.args.self.context.now.book.now c.args.self.context.now.rules.now
    c.args.self.context.now.batch.now))
