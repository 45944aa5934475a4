-- What one more call of `read` gave stands behind what was filled before.
use Rattle.std.proofs.Common.{rules, ◌∙◌}
use Rattle.std.proofs.lemmas.List.{with_items_is, places}
use Rattle.reg_front.proofs.Inputs.{longer, longer_filled}
use Rattle.reg_front.proofs.Rooms.{filled_more}
use Rattle.reg_front.proofs.device.read_all.Goals as goal

pub returns-then-count-filled-clause-fault : goal.returns-then-count-filled-clause-fault
returns-then-count-filled-clause-fault g c =
    let before = c.loop-call.invariant in
    let read = c.in-Ok.ensures in
    let given = filled_more _ _ _ c.loop-call.text.items _ _ _ _ c.in-Ok.count c.make_room.ensures.front
    c.as_mut_slice.ensures.value read.front before.lost read.given in (
      record { good = read.good ∙ before.good; given = (_, given) },
      longer _ _ _ _ given (longer_filled _ _ _ _ read.fits c.if-count-filled.true),
    )

pub loop-call-preserved : goal.loop-call-preserved
loop-call-preserved g c =
    let before = c.loop-call.invariant in
    let read = c.in-Ok.ensures in
    let given = filled_more _ _ _ c.loop-call.text.items _ _ _ _ c.in-Ok.count c.make_room.ensures.front
    c.as_mut_slice.ensures.value read.front before.lost read.given in
    record {
      good = read.good ∙ before.good;
      lost = rw (with_items_is c.make_room.new.text c.read_behind.new.text (search (rules, places))) given;
      within = search rules;
      limit = search rules;
      calls = search rules;
    }
