use Rattle.std.proofs.Common.{◌≡◌}
use Rattle.std.specs.Prelude.{All}
use Rattle.reg_run.specs.Running.{answers_of}
use Rattle.reg_run.specs.Taking.{TakesTasks, known_by}
use Rattle.reg_run.proofs.worker.work.Given as goal

-- it ran what it took, in this order
abbrev pub invariant-loop-turn : goal.invariant-loop-turn
invariant-loop-turn g l = record {
  own : All (λ r. r.worker ≡ l.number) l.busy.ran.items;
  promised : All (λ r. g.D.Do.promises l.doing r.number r.answer) l.busy.ran.items;
  noted : g.D.Do.noted l.number (answers_of l.busy.ran.items) l.busy.notes;
  taken : TakesTasks (known_by l.fn.worker.taker) l.busy.ran.items (known_by l.taker);
}
