-- What a counted reader or writer is made of.
use Rattle.std.specs.Prelude.{ℕ, Bool, List, Option}
use Rattle.reg_front.specs.Streams.{Stream}
use Rattle.reg_front.specs.declared.counted.Counted.{Counted}

-- the reader or writer whose calls are counted
abbrev pub counted_inner : {T : Type 0} → Counted T → T
counted_inner counted = counted.inner

-- how many calls have failed
abbrev pub counted_failures : {T : Type 0} → Counted T → ℕ
counted_failures counted = counted.failures

-- it is a writer, has accepted a flush, and no call of `write` came since
abbrev pub counted_flushed : {T : Type 0} → Counted T → Bool
counted_flushed counted = counted.flushed

-- what it tells, where a function tells the bytes of what is counted
abbrev pub counted_stream : {T : Type 0} → (T → Option (List ℕ)) → Counted T → Stream
counted_stream bytes counted =
    record { bytes = bytes counted.inner; failures = counted.failures; flushed = counted.flushed }
