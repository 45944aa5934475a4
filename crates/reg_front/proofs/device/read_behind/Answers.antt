-- The front of a text stays, and what the call gave stands behind it.
use Rattle.std.proofs.Common.{arith, length-take-le}
use borrow.Rule.Slice.PartMut.{take_put}
use Rattle.reg_front.proofs.Rooms.{given_behind}
use Rattle.reg_front.proofs.device.read_behind.Goals as goal

pub returns-clause-front : goal.returns-clause-front
returns-clause-front g c = take_put _ _ c.args.text.now _ (omega (arith, c.requires.room))

pub returns-clause-given : goal.returns-clause-given
returns-clause-given g c =
    given_behind _ _ c.read.result _ c.read.new.buf _ c.args.filled
    (length-take-le _ c.args.text.now (omega (arith, c.requires.room)))
    c.read.ensures.bound c.read.ensures.bytes
