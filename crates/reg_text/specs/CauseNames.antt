-- The causes by their names.
use Rattle.std.specs.Prelude.{ℕ, List, [], ◌∷◌, Result}
use Rattle.reg_text.specs.declared.cause.Cause.{Cause}
use Rattle.reg_text.specs.declared.cause.Cause.TheVariants.{End, Tag, Fields, Number, Date, Word, Version, Limit, Order}
use Rattle.reg_text.specs.Causes.{cause_name}
use Rattle.reg_text.specs.Words.{word_of}

abbrev pub causes : List Cause
causes = End ∷ Tag ∷ Fields ∷ Number ∷ Date ∷ Word ∷ Version ∷ Limit ∷ Order ∷ []

-- the cause that a text names; another text is a wrong word
abbrev pub cause_of : List ℕ → Result Cause Cause
cause_of = word_of cause_name causes
