use Rattle.reg_work.specs.Frames.{OwnerAlone}
use Rattle.reg_work.proofs.worker.Worker+Task+N+N+S.open_place.Given as goal

abbrev pub invariant-loop-index : goal.invariant-loop-index
invariant-loop-index g l = record {
  rest : OwnerAlone l.initial.self l.self;
}
