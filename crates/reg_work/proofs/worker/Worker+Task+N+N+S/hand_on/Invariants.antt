use Rattle.std.proofs.Common.{◌≡◌}
use Rattle.reg_run.specs.Taking.{known_by}
use Rattle.reg_work.specs.Frames.{IsSameThief}
use Rattle.reg_work.proofs.worker.Worker+Task+N+N+S.hand_on.Given as goal

-- neither the seat nor the run changes
abbrev pub invariant-loop-parcel : goal.invariant-loop-parcel
invariant-loop-parcel g l = record {
  seat : l.self.seat ≡ l.initial.self.seat;
  work : (l.self.ran ≡ l.initial.self.ran) × (l.self.done ≡ l.initial.self.done);
  others : IsSameThief (known_by l.initial.self.taker) (known_by l.self.taker);
  ran : (l.execution.ran ≡ l.initial.execution.ran) × (l.execution.done ≡ l.initial.execution.done);
}

abbrev pub decreases-loop-parcel : goal.decreases-loop-parcel
decreases-loop-parcel g l = goal.left-loop-parcel g l
