-- The versions of the format, and what earlier rows of a text decide of later ones.
use Rattle.std.specs.Prelude.{ℕ, List, [], ◌∷◌, Result, codes}
use Rattle.reg_base.specs.declared.limits.TheConstants.{MOST_PERIODS}
use Rattle.reg_text.specs.declared.cause.Cause.{Cause}
use Rattle.reg_text.specs.declared.cause.Cause.TheVariants as cause
use Rattle.reg_text.specs.declared.reading.scope.Version.{Version}
use Rattle.reg_text.specs.declared.reading.scope.Version.TheVariants.{One, Two}
use Rattle.reg_text.specs.declared.reading.scope.Scope.{Scope}
use Rattle.reg_text.specs.Words.{named}

-- the word of a version, and the version that a field names
abbrev pub version_word : Version → List ℕ
version_word One = codes "1"
version_word Two = codes "2"

abbrev pub versions : List Version
versions = One ∷ Two ∷ []

abbrev pub version_of : List ℕ → Result Version Cause
version_of = named cause.Version version_word versions

-- one thing in the first version, and another in the second
abbrev pub by_version : {X : Type 0} → X → X → Version → X
by_version first second One = first
by_version first second Two = second

-- the scope in which each row may be spelled
abbrev pub widest : Scope
widest = record { version = Two; periods = MOST_PERIODS }
