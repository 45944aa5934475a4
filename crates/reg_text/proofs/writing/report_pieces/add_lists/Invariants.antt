use Rattle.std.proofs.Common.{◌++◌}
use Rattle.reg_book.proofs.lemmas.TotalFacts.{AddUpWith}
use Rattle.reg_facts.specs.Lists.{joined_lists}
use Rattle.reg_text.specs.declared.writing.pieces.Blocks.{Blocks}
use Rattle.reg_text.specs.Pieces.{AreBlocksOfLists, text_of_pieces}
use Rattle.reg_text.proofs.BlockFacts.{blocks_text}
use Rattle.reg_text.proofs.RunFacts.{IsSpelled}
use Rattle.reg_text.proofs.writing.report_pieces.add_lists.Given as goal

-- the pieces so far, and the runs of lists that are left, whose totals are still to be added
abbrev pub invariant-loop-run : goal.invariant-loop-run
invariant-loop-run g l = record {
  next : (goal.iterator-loop-run g).can_next l.run-iterator;
  ends : (goal.iterator-loop-run g).is_finite l.run-iterator;
  spelled : IsSpelled AreBlocksOfLists (λ first lists. blocks_text (joined_lists lists))
      (λ (blocks : Blocks). blocks.text)
      (λ others. AddUpWith l.totals (joined_lists l.fn.lists) (joined_lists others))
      (text_of_pieces l.fn.pieces.items ++ blocks_text (joined_lists l.fn.lists)) l.size l.pieces.items
      l.run-iterator.rest.items;
}
