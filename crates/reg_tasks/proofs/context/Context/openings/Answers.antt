use Rattle.std.proofs.Common.{sym, subst}
use Rattle.std.proofs.Props.{props}
use mathlib.Core.Logic.{∥∥₁_elim}
use Rattle.reg_base.specs.Rising.{IsRising}
use Rattle.reg_tasks.specs.Slots.{opened_accounts}
use Rattle.reg_tasks.proofs.context.Context.openings.Goals as goal

pub returns-clause-rising : goal.returns-clause-rising
returns-clause-rising g c =
    ∥∥₁_elim c.args.self.now.planned (Prim.hlevel props)
    (λ made. subst (λ os. IsRising (opened_accounts os)) (sym c.openings.ensures) made.openings.rising)
