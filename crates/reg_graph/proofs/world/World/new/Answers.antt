use Rattle.std.proofs.Common.{[], Some, sym, ap}
use Rattle.reg_graph.proofs.world.World.new.Goals as goal

pub invariant_of-result : goal.invariant_of-result
invariant_of-result g c =
    record {
      dock_room = c.in_ok-parts.ensures.rooms;
      reached = ∣ record {
        workers = c.args.workers;
        some = c.requires.some;
        few = c.requires.few;
        events = [];
        after = ap Some (sym c.in_ok-parts.ensures.start);
      } ∣₁;
    }
