-- Where a text may be cut.
use Rattle.std.specs.Prelude.{◌≡◌, ℕ, ◌-◌, Bool, false, ◌||◌, ◌==◌, List, [], ◌∷◌, ◌++◌, length, Some, slice_get}
use Rattle.std.specs.Borrow.{Bor}
use Rattle.std.specs.List.{flat_map}
use Rattle.csv.specs.Machine.{ends_at_end, step}
use Rattle.csv.specs.Reading.{default_config, records, strip_bom}
use Rattle.csv.specs.declared.parser.State.{State}
use Rattle.csv.specs.declared.parser.State.TheVariants as st
use Rattle.reg_cuts.specs.Rows.{rows_read, rows_in_text}

-- the state of csv's machine after these bytes
unfoldable pub machine_after : State → List ℕ → State
machine_after s [] = s
machine_after s (c ∷ rest) = machine_after (step default_config s c).0 rest

-- after these bytes the machine stands between two rows, so a text may be cut behind them
abbrev pub IsCut : List ℕ → Type 0
IsCut a = ends_at_end (machine_after st.StartRecord (strip_bom a)) ≡ false

-- a reader of these bytes alone skips no byte order mark
abbrev pub HasNoMark : List ℕ → Type 0
HasNoMark b = strip_bom b ≡ b

-- some byte is a quote
unfoldable pub has_quote : List ℕ → Bool
has_quote [] = false
has_quote (c ∷ rest) = (c == 34) || has_quote rest

-- the bytes of parts one after another
abbrev pub text_of_parts : List (Bor (List ℕ)) → List ℕ
text_of_parts parts = flat_map (λ part. part.now) parts

-- law: if bytes lead from a state between two rows to such a state, their rows come first, and then those of the rest
-- read alone
abbrev pub EachSplitSplits : Type 0
EachSplitSplits = (s : State) (a b : List ℕ) → ends_at_end s ≡ false → ends_at_end (machine_after s a) ≡ false
    → rows_read s (a ++ b) ≡ rows_read s a ++ records default_config b

-- law: the same of whole texts, whose byte order mark is skipped at the very start alone
abbrev pub EachCutSplits : Type 0
EachCutSplits = (a b : List ℕ) → IsCut a → HasNoMark b → rows_in_text (a ++ b) ≡ rows_in_text a ++ rows_in_text b

-- law: if a text may be cut behind each of two parts, the second of which has no byte order mark, it may be cut behind
-- both together
abbrev pub CutsGoOn : Type 0
CutsGoOn = (a b : List ℕ) → IsCut a → HasNoMark b → IsCut b → IsCut (a ++ b)

-- law: a text may be cut behind lines without quotes, the last of which ends with a line feed
abbrev pub LinesWithoutQuotesAreCuts : Type 0
LinesWithoutQuotesAreCuts = (a : List ℕ) → has_quote a ≡ false → slice_get a (length a - 1) ≡ Some 10 → IsCut a
