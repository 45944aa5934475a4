use Rattle.reg_front.proofs.PieceFacts.{piece-failed}
use Rattle.reg_front.proofs.pieces.put_pieces.Goals as goal

pub returns-in_default-clause-err : goal.returns-in_default-clause-err
returns-in_default-clause-err g c =
    let s = g.W.Sink.stream in
    piece-failed (s c.args.writer.now) (s c.loop-piece.writer) (s c.put_all.new.writer) c.args.pieces.now
    c.loop-piece.piece-index c.piece-item.result c.deref.result.now c.loop-piece-test.true c.piece-item.is
    c.deref.ensures.value c.loop-piece.invariant.good c.loop-piece.invariant.done c.in_default.ensures.err
