use Rattle.std.proofs.Common.{Some, sym, ap}
use Rattle.reg_tasks.specs.Contexts.{the_day}
use Rattle.reg_yard.specs.Parcels.{parcel_of}
use Rattle.reg_yard.specs.Dock.{came_to}
use Rattle.reg_yard.proofs.Taken.{taken-if}
use Rattle.reg_yard.proofs.dock.Dock.deliver_at.Goals as goal

pub returns-clause-taken : goal.returns-clause-taken
returns-clause-taken g c =
    let dock = c.args.self.now in
    let context = dock.context.now in
    taken-if g.N.Naming.day (Some c.args.place) (the_day context) context.plan dock.place dock.waiting
    (parcel_of c.args.parcel) (came_to c.deliver.new.self) c.deliver.result
    context.named context.planned (ap Some (sym c.if-self-place.false)) dock.few c.deliver.ensures.refused
    c.deliver.ensures.delivered
