use Rattle.std.proofs.Common.{sym, ap, subst}
use Rattle.reg_tasks.specs.Contexts.{the_day}
use Rattle.reg_tasks.specs.Parcels.{parcels_of}
use Rattle.reg_yard.specs.Held.{FitInDock}
use Rattle.reg_yard.proofs.Wanted.{none-few}
use Rattle.reg_yard.proofs.dock.Dock.new.Goals as goal

pub try_assemble-waiting-requires-clause-few : goal.try_assemble-waiting-requires-clause-few
try_assemble-waiting-requires-clause-few g c =
    let day = the_day c.args.context.now in
    let plan = c.args.context.now.plan in
    subst (FitInDock day plan c.args.place) (sym (ap parcels_of c.in_ok-none.ensures.items))
    (none-few day plan c.args.place)
