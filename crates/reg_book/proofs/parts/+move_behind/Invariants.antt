use Rattle.std.proofs.Common.{length}
use Rattle.reg_book.proofs.parts.+move_behind.Given as goal

abbrev pub decreases-move_behind : goal.decreases-move_behind
decreases-move_behind l = length l.lists.now
