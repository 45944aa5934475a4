-- What a faulty device is as a reader and as a writer, and which of its calls fails.
use Rattle.std.specs.Prelude.{◌≡◌, ◌-◌, ℕ, Some}
use Rattle.std.specs.Io.Cursor.{cursor_remaining}
use Rattle.reg_front.specs.Streams.{Stream}
use Rattle.reg_front.specs.declared.faulty.Faulty.{Faulty}

-- the device as a reader
abbrev pub source_of : Faulty → Stream
source_of device = record {
  bytes = cursor_remaining (λ bytes. Some bytes.items) device.left;
  failures = device.calls.failures;
  flushed = device.flushed;
}

-- the device as a writer
abbrev pub sink_of : Faulty → Stream
sink_of device = record {
  bytes = Some device.written.items;
  failures = device.calls.failures;
  flushed = device.flushed;
}

-- the most bytes that one call moves
abbrev pub most_of : Faulty → ℕ
most_of device = device.calls.most

-- which call from here on fails: 1 is the next one, 0 is none
abbrev pub failing_call : Faulty → ℕ
failing_call device = device.calls.until_failure

-- one call was made
pub record IsCalled (old new : Faulty) : Type 0 where
  pub counted : failing_call new ≡ failing_call old - 1
  pub most : most_of new ≡ most_of old
