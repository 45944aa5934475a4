use Rattle.std.proofs.Common.{drop}
use Rattle.reg_facts.specs.Lists.{joined_lists}
use Rattle.reg_book.proofs.lemmas.TotalFacts.{AddUpWith}
use Rattle.reg_book.proofs.parts.add_up_lists.Given as goal

-- what was added up, with what is left, is what all have
abbrev pub invariant-loop-list : goal.invariant-loop-list
invariant-loop-list l = record {
  left : AddUpWith l.totals (joined_lists l.lists) (joined_lists (drop l.list-index l.lists));
}
