use Rattle.std.proofs.Common.{◌++◌}
use Rattle.reg_book.proofs.lemmas.TotalFacts.{AddUpWith}
use Rattle.reg_text.specs.declared.writing.pieces.Blocks.{Blocks}
use Rattle.reg_text.specs.Pieces.{AreBlocksOf, text_of_pieces}
use Rattle.reg_text.proofs.BlockFacts.{blocks_text}
use Rattle.reg_text.proofs.RunFacts.{IsSpelled}
use Rattle.reg_text.proofs.writing.pieces.add_accounts.Given as goal

-- the pieces so far, and the runs that are left, whose totals are still to be added
abbrev pub invariant-loop-run : goal.invariant-loop-run
invariant-loop-run g l = record {
  next : (goal.iterator-loop-run g).can_next l.run-iterator;
  ends : (goal.iterator-loop-run g).is_finite l.run-iterator;
  spelled : IsSpelled AreBlocksOf (λ first accounts. blocks_text accounts) (λ (blocks : Blocks). blocks.text)
      (AddUpWith l.totals l.fn.accounts)
      (text_of_pieces l.fn.pieces.items ++ blocks_text l.fn.accounts) l.size l.pieces.items
      l.run-iterator.rest.items;
}
