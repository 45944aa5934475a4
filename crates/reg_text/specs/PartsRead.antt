-- What reading a part on its own answers.
use Rattle.std.specs.Prelude.{ℕ, ◌<◌, List, [], ◌∷◌, Option, Some, None, length, slice_index_or}
use Rattle.std.specs.Borrow.{Bor}
use Rattle.reg_cuts.specs.Parts.{IsCut, HasNoMark}
use Rattle.reg_cuts.specs.Rows.{rows_in_text}
use Rattle.reg_text.specs.declared.reading.part.Part.{Part}
use Rattle.reg_text.specs.Drafts.{DraftValue, behind_heading}
use Rattle.reg_text.specs.Joining.{IsPart}

-- what was read of a part is what its rows say behind the heading, or nothing was read
abbrev pub IsReadPart : DraftValue → List ℕ → Option Part → Type 0
IsReadPart h text None = Unit {0}
IsReadPart h text (Some part) =
    IsCut text × HasNoMark text × IsPart h (rows_in_text text) part.first (behind_heading h.heading part.body)

-- the same of each part, one after another
unfoldable pub ReadsEach : DraftValue → List (Bor (List ℕ)) → List (Option Part) → Type 0
ReadsEach h [] [] = Unit {0}
ReadsEach h (p ∷ parts) (o ∷ read) = IsReadPart h p.now o × ReadsEach h parts read
ReadsEach h [] (o ∷ read) = ⊥
ReadsEach h (p ∷ parts) [] = ⊥

-- the same, at each index
abbrev pub ReadsAt : DraftValue → List (Bor (List ℕ)) → List (Option Part) → Type 0
ReadsAt h parts read = (i : ℕ) (p : Bor (List ℕ)) (o : Option Part) → i < length parts
    → IsReadPart h (slice_index_or parts i p).now (slice_index_or read i o)
