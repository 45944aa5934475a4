-- The rows of a text, which csv calls records, and those that a reader over it still gives.
use Rattle.std.specs.Prelude.{◌≡◌, ℕ, ◌+◌, ◌≤◌, true, false, ⊤, List, [], length, Option, Some, IsSome, unwrap_or}
use Rattle.std.specs.Borrow.{Bor}
use Rattle.csv.specs.Machine.{ends_at_end}
use Rattle.csv.specs.Reading.{Ready, default_config, reader_config, reader_state, reader_trim, is_flexible, records}
use Rattle.csv.specs.Reading.{records_from, source_of, strip_bom}
use Rattle.csv.specs.declared.error.ErrorKind.{ErrorKind}
use Rattle.csv.specs.declared.error.ErrorKind.TheVariants as kind
use Rattle.csv.specs.declared.parser.State.{State}
use Rattle.csv.specs.declared.reader.Reader.{Reader}
use Rattle.csv.specs.declared.reader.Trim.TheVariants as trim

-- a row's fields, each a list of bytes
abbrev pub TextRow : Type 0
TextRow = List (List ℕ)

-- the rows of a text as csv splits it; a byte order mark at the very start is skipped
abbrev pub rows_in_text : List ℕ → List TextRow
rows_in_text text = records default_config (strip_bom text)

-- the bytes that a reader has left, if they are known
abbrev pub known_rest : Reader (Bor (List ℕ)) → Option (List ℕ)
known_rest reader = source_of (λ s. Some s.now) reader

abbrev pub rest_of : Reader (Bor (List ℕ)) → List ℕ
rest_of reader = unwrap_or (known_rest reader) []

-- the rows that csv's machine reads in these bytes from this state, which is between two rows
abbrev pub rows_read : State → List ℕ → List TextRow
rows_read state bytes = records_from default_config (length bytes + 1) state bytes

-- the rows that a reader has left
abbrev pub rows_left : Reader (Bor (List ℕ)) → List TextRow
rows_left reader = rows_read (reader_state reader) (rest_of reader)

-- a reader of whole rows of any lengths with the defaults of csv, between two rows
pub record IsBetweenRows (reader : Reader (Bor (List ℕ))) : Type 0 where
  pub flexible : is_flexible reader ≡ true
  pub trims_nothing : reader_trim reader ≡ trim.None
  pub ready : Ready reader
  pub plain : reader_config reader ≡ default_config
  pub known : IsSome (known_rest reader)
  pub between : ends_at_end (reader_state reader) ≡ false

-- an error of memory, or of the source of bytes, which csv's contract does not exclude
abbrev pub IsOfMemory : ErrorKind → Type 0
IsOfMemory kind.OutOfMemory = ⊤
IsOfMemory (kind.Io error) = ⊤
IsOfMemory (kind.Utf8 pos error) = ⊥
IsOfMemory (kind.UnequalLengths pos expected len) = ⊥
IsOfMemory (kind.Serialize text) = ⊥
IsOfMemory (kind.Deserialize pos error) = ⊥

-- law: a text has at most one row more than it has bytes
abbrev pub EachTextHasFewRows : Type 0
EachTextHasFewRows = (text : List ℕ) → length (rows_in_text text) ≤ length text + 1
