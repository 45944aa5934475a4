use Rattle.std.proofs.Common.{◌≡◌, drop}
use Rattle.reg_base.specs.Rising.{IsRising}
use Rattle.reg_rules.specs.State.{account, numbers}
use Rattle.reg_facts.specs.Lists.{joined_lists}
use Rattle.reg_book.proofs.parts.get_in_lists.Given as goal

-- the lists that are left have the account if one of all has it
abbrev pub invariant-loop-list : goal.invariant-loop-list
invariant-loop-list l = record {
  rising : IsRising (numbers (joined_lists (drop l.list-index l.lists)));
  same : account (joined_lists (drop l.list-index l.lists)) l.number ≡ account (joined_lists l.lists) l.number;
}
