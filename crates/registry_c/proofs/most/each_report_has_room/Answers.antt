use Rattle.registry_c.proofs.Rooms.{has-room}
use Rattle.registry_c.proofs.most.each_report_has_room.Goals as goal

pub returns : goal.returns
returns c bytes old new answer tells most small =
    rw tells.2 (has-room c.no_report_is_longer.ensures bytes old tells.0 tells.1 most small)
