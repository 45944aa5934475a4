use Rattle.std.proofs.Common.{sym, ap, subst}
use Rattle.std.proofs.lemmas.Option.{same_Some}
use Rattle.reg_tasks.specs.Contexts.{the_day}
use Rattle.reg_tasks.specs.Parcels.{parcels_of}
use Rattle.reg_yard.specs.Held.{FitInDock}
use Rattle.reg_yard.proofs.Wanted.{none-few}
use Rattle.reg_yard.proofs.dock.Dock.waiting.Goals as goal

pub invariant_of-result-clause-few : goal.invariant_of-result-clause-few
invariant_of-result-clause-few g c = λ parcels same.
    let day = the_day c.args.context.now in
    let plan = c.args.context.now.plan in
    let none = c.in_ok-none.none in
    subst (λ came. FitInDock day plan c.args.place (parcels_of came.items)) (same_Some none parcels same)
    (subst (FitInDock day plan c.args.place) (sym (ap parcels_of c.in_ok-none.ensures.items))
    (none-few day plan c.args.place))
