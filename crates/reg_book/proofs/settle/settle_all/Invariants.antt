use Rattle.std.proofs.Common.{◌≡◌, ◌+◌, ◌++◌, drop}
use Rattle.reg_rules.specs.State.{numbers}
use Rattle.reg_rules.specs.Laws.{IsReady}
use Rattle.reg_book.specs.Fold.{state_after, rows_of, replies_in}
use Rattle.reg_book.proofs.settle.settle_all.Given as goal

abbrev pub invariant-loop-index : goal.invariant-loop-index
invariant-loop-index l =
    let setting = l.setting in
    record {
      counted : l.last ≡ l.initial.last + l.index;
      ready : IsReady (l.last + 1) l.accounts;
      same_numbers : numbers l.accounts ≡ numbers l.initial.accounts;
      so_far : l.replies.items ++ replies_in (rows_of setting l.accounts (l.last + 1) (drop l.index l.instructions))
          ≡ replies_in (rows_of setting l.initial.accounts (l.initial.last + 1) l.instructions);
      state : state_after setting l.accounts (l.last + 1) (drop l.index l.instructions)
          ≡ state_after setting l.initial.accounts (l.initial.last + 1) l.instructions;
    }
