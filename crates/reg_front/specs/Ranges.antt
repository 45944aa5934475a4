-- Which file a source reads, and from where, as the system tells it.
use Rattle.std.specs.Prelude.{◌≡◌, ◌≤◌, ◌<◌, ◌+◌, ℕ, List, [], ◌∷◌, ◌++◌, Option, Some, None, IfSome, IsSome, Bool}
use Rattle.std.specs.Prelude.{Vec, codes, drop, false, length, option_map, slice_index_or, slice_range, true}
use Rattle.std.specs.Global.{Global}
use Rattle.std.specs.Str.Parse.{IsNumeral, digits_value, without_leading_plus}
use Rattle.reg_text.specs.Pieces.{text_of_pieces}
use Rattle.reg_front.specs.Devices.{most_input}
use Rattle.reg_front.specs.Streams.{Stream}

-- the number that a word spells, with or without a plus sign
abbrev pub word_number : List ℕ → ℕ
word_number word = digits_value 10 (without_leading_plus word)

-- the text begins with a line that tells this offset
abbrev pub TellsOffset : List ℕ → ℕ → Type 0
TellsOffset text offset =
    (word : List ℕ) × (rest : List ℕ) × (text ≡ codes "pos:\t" ++ word ++ 10 ∷ rest)
    × IsNumeral 10 (without_leading_plus word) × (offset ≡ word_number word)

-- the most bytes of such a line, with its end: an offset below 2^64 has 20 digits at most
abbrev pub most_offset_line : ℕ
most_offset_line = 26

-- where the bytes of a source are known, those of the file and of the state are too, and the source's bytes are those
-- of the file from the offset on that the state tells
abbrev pub Agrees : Option (List ℕ) → Option (List ℕ) → Option (List ℕ) → Type 0
Agrees left file state = IfSome left (λ bytes. IsSome file × IsSome state
    × IfSome file (λ all. IfSome state (λ text. (offset : ℕ) → TellsOffset text offset → bytes ≡ drop offset all)))

-- a reader that has ended, if that is so: nothing of it is left. Else it is as it was
abbrev pub ended_if : Bool → Stream → Stream
ended_if false stream = stream
ended_if true stream =
    record { bytes = option_map (λ _. []) stream.bytes; failures = stream.failures; flushed = stream.flushed }

-- these pieces are all that is left, and are within the limit, where that is known
abbrev pub AreAhead : Option (List ℕ) → List (Vec ℕ Global) → Type 0
AreAhead left pieces =
    IfSome left (λ bytes. (text_of_pieces pieces ≡ bytes) × (length bytes ≤ most_input))

-- these are the bytes of a file from one offset up to another, where its bytes are known, or they were not read
abbrev pub IsRange : Option (List ℕ) → ℕ → ℕ → Option (Vec ℕ Global) → Type 0
IsRange contents from to None = Unit {0}
IsRange contents from to (Some piece) = (from ≤ to) × IfSome contents (λ bytes. piece.items ≡ slice_range bytes from to)

-- each of these reaches from its offset up to the next one
abbrev pub AreRanges : Option (List ℕ) → List ℕ → List (Option (Vec ℕ Global)) → Type 0
AreRanges contents offsets read =
    (i : ℕ) (a b : ℕ) (o : Option (Vec ℕ Global)) → i < length read
    → IsRange contents (slice_index_or offsets i a) (slice_index_or offsets (i + 1) b) (slice_index_or read i o)
