-- What threads make of the chunks of a list.
use Rattle.std.specs.Prelude.{ℕ, ◌*◌, ◌<◌, List, length, Result, IfOk, slice_index_or}
use Rattle.std.specs.Fork.{slice_chunk}
use Rattle.reg_base.specs.declared.directory.NoMemory.{NoMemory}

-- this is of each chunk of so many values, of which the first has this index
abbrev pub MadeOfChunks : {X Y : Type 0} → (ℕ → List X → Y → Type 0) → List X → ℕ → List Y → Type 0
MadeOfChunks {X} {Y} IsOf values size made = (n : ℕ) (y : Y) → n < length made
    → IsOf (n * size) (slice_chunk values size n) (slice_index_or made n y)

-- this is of the values, unless memory ran out
abbrev pub UnlessOut : {X Y : Type 0} → (ℕ → List X → Y → Type 0) → ℕ → List X → Result Y NoMemory → Type 0
UnlessOut IsOf first values made = IfOk made (IsOf first values)
