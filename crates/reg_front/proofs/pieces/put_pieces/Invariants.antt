-- The writer has not failed, and the pieces so far have come to it.
use Rattle.std.proofs.Common.{take}
use Rattle.std.specs.Io.KnownBytes.{Appends}
use Rattle.reg_front.specs.Streams.{IsGood}
use Rattle.reg_text.specs.Pieces.{text_of_pieces}
use Rattle.reg_front.proofs.pieces.put_pieces.Given as goal

abbrev pub invariant-loop-piece : goal.invariant-loop-piece
invariant-loop-piece g l = record {
  good : IsGood (g.W.Sink.stream l.initial.writer) (g.W.Sink.stream l.writer);
  done : Appends (g.W.Sink.stream l.initial.writer).bytes (g.W.Sink.stream l.writer).bytes
      (text_of_pieces (take l.piece-index l.pieces));
}
