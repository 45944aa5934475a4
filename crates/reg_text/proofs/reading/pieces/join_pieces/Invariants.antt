use Rattle.std.proofs.Common.{◌≡◌, take}
use Rattle.reg_text.specs.Pieces.{text_of_pieces}
use Rattle.reg_text.proofs.reading.pieces.join_pieces.Given as goal

-- the pieces so far have been put together
abbrev pub invariant-loop-piece : goal.invariant-loop-piece
invariant-loop-piece l = l.text.items ≡ text_of_pieces (take l.piece-index l.pieces)
