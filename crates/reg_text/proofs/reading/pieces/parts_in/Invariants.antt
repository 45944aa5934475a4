use Rattle.std.proofs.Common.{◌≡◌, ◌++◌, take}
use Rattle.reg_cuts.specs.Parts.{text_of_parts}
use Rattle.reg_text.specs.Pieces.{text_of_pieces}
use Rattle.reg_text.proofs.reading.pieces.parts_in.Given as goal

-- the parts so far are those in the pieces so far
abbrev pub invariant-loop-piece : goal.invariant-loop-piece
invariant-loop-piece l = text_of_parts l.parts.items ≡ l.fn.first ++ text_of_pieces (take l.piece-index l.later)
