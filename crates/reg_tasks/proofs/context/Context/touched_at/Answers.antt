use Rattle.std.proofs.Common.{◌-◌, [], get_or, ap, ◌∙◌}
use Rattle.std.proofs.Props.{props}
use mathlib.Core.Logic.{∥∥₁_elim}
use Rattle.reg_tasks.specs.Contexts.{the_day}
use Rattle.reg_tasks.proofs.Touching.{kept_at}
use Rattle.reg_tasks.proofs.context.Context.touched_at.Goals as goal

pub returns-clause-value : goal.returns-clause-value
returns-clause-value g c =
    ∥∥₁_elim c.args.self.now.planned (Prim.hlevel props) (λ made.
    c.touched_at.ensures.value ∙ ap (λ ls. get_or ls (c.args.place - 1) []) made.footprints
    ∙ kept_at (the_day c.args.self.now) c.args.place c.requires.place.0)
