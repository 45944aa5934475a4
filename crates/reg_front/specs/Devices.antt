-- What a call did to a reader or a writer.
use Rattle.std.specs.Prelude.{ℕ, ◌<◌, ◌≤◌, List, length, Option, IfSome, ◌++◌, ◌≡◌}
use Rattle.std.specs.Io.KnownBytes.{Appends, Consumes, IsAtEnd, Keeps}
use Rattle.reg_front.specs.Streams.{Stream, IsFlushed, IsGood, HasFailed}

-- the writer has taken a prefix of the text and nothing else
abbrev pub AppendsFrontOf : List ℕ → Option (List ℕ) → Option (List ℕ) → Type 0
AppendsFrontOf text old new = (front : List ℕ) × (rest : List ℕ) × (text ≡ front ++ rest) × Appends old new front

-- the reader has given a prefix of its bytes and nothing else
abbrev pub ConsumesFront : Option (List ℕ) → Option (List ℕ) → Type 0
ConsumesFront old new = (front : List ℕ) × Consumes old new front

-- the most bytes of an input: 2^30
abbrev pub most_input : ℕ
most_input = 1073741824

-- the whole input was read: the reader has not failed, it has given all its bytes, at most 2^30, and is at its end
pub record IsReadWhole (input rest : Stream) : Type 0 where
  pub good : IsGood input rest
  pub given : ConsumesFront input.bytes rest.bytes
  pub ended : IsAtEnd rest.bytes
  pub limit : IfSome input.bytes (λ bytes. length bytes ≤ most_input)

-- the reader has failed; before, it has given a prefix of its bytes
pub record FailsToRead (input rest : Stream) : Type 0 where
  pub failed : HasFailed input rest
  pub given : ConsumesFront input.bytes rest.bytes

-- a part of the input was read, and the reader has not failed
pub record IsPartlyRead (input rest : Stream) : Type 0 where
  pub good : IsGood input rest
  pub given : ConsumesFront input.bytes rest.bytes

-- the input has more bytes than the limit
abbrev pub IsTooLong : Stream → Type 0
IsTooLong input = IfSome input.bytes (λ bytes. most_input < length bytes)

-- the writer has not failed, and holds the whole text after what it held before
pub record Writes (text : List ℕ) (old new : Stream) : Type 0 where
  pub good : IsGood old new
  pub bytes : Appends old.bytes new.bytes text

-- the writer has not failed, holds the whole text after what it held before, and has handed all of it on
pub record HandsOn (text : List ℕ) (old new : Stream) : Type 0 where
  pub good : IsGood old new
  pub bytes : Appends old.bytes new.bytes text
  pub flushed : IsFlushed new

-- the writer has failed, and holds a prefix of the text after what it held before
pub record FailsToWrite (text : List ℕ) (old new : Stream) : Type 0 where
  pub failed : HasFailed old new
  pub bytes : AppendsFrontOf text old.bytes new.bytes

-- the writer has not failed, and holds what it held before
pub record IsUntouched (old new : Stream) : Type 0 where
  pub good : IsGood old new
  pub bytes : Keeps old.bytes new.bytes
