use Rattle.reg_work.specs.Frames.{OwnerAlone}
use Rattle.reg_work.proofs.worker.Worker+Task+N+N+S.open_next.Given as goal

abbrev pub invariant-loop-before : goal.invariant-loop-before
invariant-loop-before g l = record {
  rest : OwnerAlone l.initial.self l.self;
}
