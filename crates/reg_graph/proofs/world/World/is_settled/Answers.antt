use Rattle.std.proofs.Props.{props}
use mathlib.Core.Logic.{∥∥₁_elim}
use Rattle.reg_book.specs.Day.{day_of}
use Rattle.reg_graph.specs.WorldParts.{world_of}
use Rattle.reg_graph.proofs.world.World.is_settled.Goals as goal

pub returns : goal.returns
returns g c =
    let day = day_of c.args.self.now.context.now.book.now c.args.self.now.context.now.rules.now
    c.args.self.now.context.now.batch.now in
    let plan = c.args.self.now.context.now.plan in
    let w = world_of c.args.self.now.parts in
    ∥∥₁_elim c.args.self.now.context.now.planned (Prim.hlevel props)
    (λ made. ∥∥₁_elim c.args.self.now.reached (Prim.hlevel props) (λ r.
    (c.every_schedule.ensures day plan r.workers r.events w made r.some r.after).settled c.requires.over))
