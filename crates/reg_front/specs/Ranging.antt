-- A source that is a file, as a reader.
use Rattle.std.specs.declared.io.Read as read
use Rattle.reg_front.specs.Ranges.{ended_if}
use Rattle.reg_front.specs.Streams.{Stream}
use Rattle.reg_front.specs.declared.ranged.Ranged.{Ranged}
use Rattle.reg_front.specs.declared.ranges.ReadAt as file
use Rattle.reg_front.specs.declared.stream.Source as source

-- the source's stream, and nothing is left of it once its pieces were given
abbrev pub ranged_stream : {R F S : Type 0} {r : source.Ghosts R} {f : file.Ghosts F} {s : read.Ghosts S} → (R → Stream)
    → Ranged R F S r f s → Stream
ranged_stream stream ranged = ended_if ranged.is_at_end (stream ranged.source)
