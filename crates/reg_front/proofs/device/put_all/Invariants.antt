-- The writer has not failed, and what is gone from the rest has come to it. Each turn of the loop leaves less.
use Rattle.std.proofs.Common.{◌≡◌, ℕ, List, ◌++◌, length}
use Rattle.std.specs.Io.KnownBytes.{Appends}
use Rattle.reg_front.specs.Streams.{IsGood}
use Rattle.reg_front.proofs.device.put_all.Given as goal

abbrev pub invariant-loop-rest : goal.invariant-loop-rest
invariant-loop-rest g l = record {
  good : IsGood (g.W.Sink.stream l.initial.writer) (g.W.Sink.stream l.writer);
  done : (done : List ℕ) × (l.initial.rest ≡ done ++ l.rest)
      × Appends (g.W.Sink.stream l.initial.writer).bytes (g.W.Sink.stream l.writer).bytes done;
}

abbrev pub decreases-loop-rest : goal.decreases-loop-rest
decreases-loop-rest g l = length l.rest
