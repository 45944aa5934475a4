-- The reader has not failed and has given the filled front of the text, which is within the limit.
use Rattle.std.proofs.Common.{◌≤◌, take, vec_len}
use Rattle.std.specs.Io.KnownBytes.{Consumes}
use Rattle.reg_front.specs.Streams.{IsGood}
use Rattle.reg_front.specs.declared.device.TheConstants.{MOST_INPUT}
use Rattle.reg_front.proofs.device.read_all.Given as goal

abbrev pub invariant-loop-call : goal.invariant-loop-call
invariant-loop-call g l = record {
  good : IsGood (g.R.Source.stream l.initial.reader) (g.R.Source.stream l.reader);
  lost : Consumes (g.R.Source.stream l.initial.reader).bytes (g.R.Source.stream l.reader).bytes
      (take l.filled l.text.items);
  within : l.filled ≤ vec_len l.text;
  limit : l.filled ≤ MOST_INPUT;
  calls : l._call ≤ l.filled;
}
