use Rattle.std.proofs.Common.{eqb, sym, subst, length}
use Rattle.std.specs.Prelude.{All}
use Rattle.std.proofs.lemmas.List.Elements.{All-filter}
use Rattle.reg_plan.specs.declared.arrow.Arrow.{Arrow}
use Rattle.reg_plan.specs.Plans.{IsBetween}
use Rattle.reg_plan.proofs.order.find_fault.Goals as goal

pub first_waiting-requires : goal.first_waiting-requires
first_waiting-requires c =
    subst (All (IsBetween (length c.args.came.now))) (sym c.with_end.ensures)
    (All-filter (λ (w : Arrow). eqb w.to c.args.number) (IsBetween (length c.args.came.now)) c.args.arrows.now
    c.requires.between)
