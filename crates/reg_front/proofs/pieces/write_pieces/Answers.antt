use Rattle.reg_text.specs.Pieces.{text_of_pieces}
use Rattle.reg_front.proofs.PieceFacts.{end-failed}
use Rattle.reg_front.proofs.pieces.write_pieces.Goals as goal

pub returns-in_default-write_all-clause-err : goal.returns-in_default-write_all-clause-err
returns-in_default-write_all-clause-err g c =
    let s = g.W.Sink.stream in
    end-failed (s c.args.writer.now) (s c.put_pieces.new.writer) (s c.write_all.new.writer)
    (text_of_pieces c.args.pieces.now) c.args.end.now c.in-Ok.ensures.ok c.in_default-write_all.ensures.err
