use Rattle.std.proofs.Common.{◌-◌, Some, sym, ◌∙◌}
use Rattle.std.specs.Option.{option_map}
use Rattle.std.proofs.lemmas.List.{map-set}
use Rattle.reg_tasks.specs.Parcels.{parcels_of}
use Rattle.reg_graph.specs.WorldParts.{docks_of}
use Rattle.reg_graph.proofs.PartFacts.{placed}
use Rattle.reg_graph.proofs.DockRoom.{room-there}
use Rattle.reg_graph.proofs.delivery.put_dock.Goals as goal

pub returns-clause-there : goal.returns-clause-there
returns-clause-there g c =
    map-set (option_map (λ came. parcels_of came.items)) c.args.docks.now.items (c.args.place - 1) (Some c.args.came)
    ∙ sym (placed (docks_of c.args.docks.now.items) c.args.place (Some (parcels_of c.args.came.items))
    c.requires.from_one)

pub returns-clause-rooms : goal.returns-clause-rooms
returns-clause-rooms g c =
    λ day rooms room. room-there day c.args.docks.now.items c.args.place c.args.came c.requires.from_one rooms room
