use Rattle.std.proofs.Common.{sym, subst}
use Rattle.reg_schedules.specs.declared.event.Event.TheVariants.{Pop, Steal, Run, Deliver, Push}
use Rattle.reg_schedules.specs.World.{after_event}
use Rattle.reg_tasks.specs.Contexts.{the_day}
use Rattle.reg_graph.specs.WorldParts.{DocksHaveRoom, world_of}
use Rattle.reg_graph.proofs.WorldEvents.{answers, stays-reached}
use Rattle.reg_graph.proofs.world.World.event.Goals as goal

pub run_task-requires-clause-within : goal.run_task-requires-clause-within
run_task-requires-clause-within g c = c.knows.ensures.held c.in-Run.worker

pub deliver_parcel-requires-clause-sent : goal.deliver_parcel-requires-clause-sent
deliver_parcel-requires-clause-sent g c = c.knows.ensures.sent c.in-Deliver.worker

pub deliver_parcel-requires-clause-room : goal.deliver_parcel-requires-clause-room
deliver_parcel-requires-clause-room g c = c.knows.ensures.dock_room c.in-Deliver.worker

pub invariant_of-self : goal.invariant_of-self
unfolding after_event
invariant_of-self g c =
    let now = c.args.self.now in
    let context = now.context.now in
    record {
      reached = stays-reached (the_day context) context.plan (world_of now.parts) (world_of c.take_task.new.self)
          (Pop c.in-Pop.worker) _ c.take_task.result c.take_task.ensures.answer now.reached;
      dock_room = subst (DocksHaveRoom (the_day context)) (sym c.take_task.ensures.docks) now.dock_room;
    }

pub returns-in-Pop-clause-answer : goal.returns-in-Pop-clause-answer
unfolding after_event
returns-in-Pop-clause-answer g c =
    let now = c.args.self.now in
    let context = now.context.now in
    answers (the_day context) context.plan (world_of now.parts) (world_of c.take_task.new.self) c.take_task.result
    (Pop c.in-Pop.worker) c.args.event c.in-Pop.is c.take_task.ensures.answer

pub invariant_of-self-in-Steal : goal.invariant_of-self-in-Steal
unfolding after_event
invariant_of-self-in-Steal g c =
    let now = c.args.self.now in
    let context = now.context.now in
    record {
      reached = stays-reached (the_day context) context.plan (world_of now.parts) (world_of c.steal_task.new.self)
          (Steal c.in-Steal.worker c.in-Steal.from) _ c.steal_task.result c.steal_task.ensures.answer now.reached;
      dock_room = subst (DocksHaveRoom (the_day context)) (sym c.steal_task.ensures.docks) now.dock_room;
    }

pub returns-in-Steal-clause-answer : goal.returns-in-Steal-clause-answer
unfolding after_event
returns-in-Steal-clause-answer g c =
    let now = c.args.self.now in
    let context = now.context.now in
    answers (the_day context) context.plan (world_of now.parts) (world_of c.steal_task.new.self) c.steal_task.result
    (Steal c.in-Steal.worker c.in-Steal.from) c.args.event c.in-Steal.is c.steal_task.ensures.answer

pub invariant_of-self-in-Run : goal.invariant_of-self-in-Run
unfolding after_event
invariant_of-self-in-Run g c =
    let now = c.args.self.now in
    let context = now.context.now in
    record {
      reached = stays-reached (the_day context) context.plan (world_of now.parts) (world_of c.run_task.new.self)
          (Run c.in-Run.worker) _ c.run_task.result c.run_task.ensures.answer now.reached;
      dock_room = subst (DocksHaveRoom (the_day context)) (sym c.run_task.ensures.docks) now.dock_room;
    }

pub returns-in-Run-clause-answer : goal.returns-in-Run-clause-answer
unfolding after_event
returns-in-Run-clause-answer g c =
    let now = c.args.self.now in
    let context = now.context.now in
    answers (the_day context) context.plan (world_of now.parts) (world_of c.run_task.new.self) c.run_task.result
    (Run c.in-Run.worker) c.args.event c.in-Run.is c.run_task.ensures.answer

pub invariant_of-self-in-Deliver : goal.invariant_of-self-in-Deliver
unfolding after_event
invariant_of-self-in-Deliver g c =
    let now = c.args.self.now in
    let context = now.context.now in
    record {
      reached = stays-reached (the_day context) context.plan (world_of now.parts) (world_of c.deliver_parcel.new.self)
          (Deliver c.in-Deliver.worker) _ c.deliver_parcel.result c.deliver_parcel.ensures.answer now.reached;
      dock_room = c.deliver_parcel.ensures.rooms;
    }

pub returns-in-Deliver-clause-answer : goal.returns-in-Deliver-clause-answer
unfolding after_event
returns-in-Deliver-clause-answer g c =
    let now = c.args.self.now in
    let context = now.context.now in
    answers (the_day context) context.plan (world_of now.parts) (world_of c.deliver_parcel.new.self)
    c.deliver_parcel.result
    (Deliver c.in-Deliver.worker) c.args.event c.in-Deliver.is c.deliver_parcel.ensures.answer

pub invariant_of-self-in-Push : goal.invariant_of-self-in-Push
unfolding after_event
invariant_of-self-in-Push g c =
    let now = c.args.self.now in
    let context = now.context.now in
    record {
      reached = stays-reached (the_day context) context.plan (world_of now.parts) (world_of c.push_task.new.self)
          (Push c.in-Push.worker) _ c.push_task.result c.push_task.ensures.answer now.reached;
      dock_room = subst (DocksHaveRoom (the_day context)) (sym c.push_task.ensures.docks) now.dock_room;
    }

pub returns-in-Push-clause-answer : goal.returns-in-Push-clause-answer
unfolding after_event
returns-in-Push-clause-answer g c =
    let now = c.args.self.now in
    let context = now.context.now in
    answers (the_day context) context.plan (world_of now.parts) (world_of c.push_task.new.self) c.push_task.result
    (Push c.in-Push.worker) c.args.event c.in-Push.is c.push_task.ensures.answer
