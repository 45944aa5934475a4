use Rattle.std.proofs.Common.{◌++◌, ℕ, List, Vec}
use Rattle.std.specs.Bool.{⊤}
use Rattle.std.specs.Global.{Global}
use Rattle.reg_rules.specs.declared.reply.Reply.{Reply}
use Rattle.reg_text.specs.Pieces.{IsLogOf, rows_after, text_of_pieces}
use Rattle.reg_text.proofs.EntryFacts.{log_text}
use Rattle.reg_text.proofs.RunFacts.{IsSpelled}
use Rattle.reg_text.proofs.writing.pieces.add_log.Given as goal

-- the pieces so far, and the runs that are left
abbrev pub invariant-loop-run : goal.invariant-loop-run
invariant-loop-run g l = record {
  next : (goal.iterator-loop-run g).can_next l.run-iterator;
  ends : (goal.iterator-loop-run g).is_finite l.run-iterator;
  spelled : IsSpelled (IsLogOf l.fn.batch) (λ first replies. log_text (rows_after l.fn.batch first replies))
      (λ (text : Vec ℕ Global). text) (λ (rest : List Reply). ⊤)
      (text_of_pieces l.fn.pieces.items ++ log_text (rows_after l.fn.batch 0 l.fn.replies)) l.size l.pieces.items
      l.run-iterator.rest.items;
}
