-- What was read is the front of the state's text.
use Rattle.std.proofs.Common.{take}
use Rattle.reg_front.proofs.Offsets.{front_told}
use Rattle.reg_front.proofs.offset.read_offset.Goals as goal

pub returns : goal.returns
returns g c =
    front_told (g.S.Read.remaining c.args.state.now) (g.S.Read.remaining c.read.new.self)
    (take c.in-Ok.count c.read.new.buf) c.offset_told.result c.in-Ok.ensures.bytes.0 c.offset_told.ensures
