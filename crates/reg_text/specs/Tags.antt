-- Tags: where a row with each is allowed, and the tag that a field names.
use Rattle.std.specs.Prelude.{ℕ, Bool, true, false, ◌&&◌, nat_lt, nat_le, List, [], ◌∷◌, ◌++◌, Option, Some, None}
use Rattle.std.specs.Prelude.{Result}
use Rattle.reg_text.specs.declared.cause.Cause.{Cause}
use Rattle.reg_text.specs.declared.cause.Cause.TheVariants as cause
use Rattle.reg_text.specs.declared.reading.tag.Stages.{Stages}
use Rattle.reg_text.specs.declared.reading.tag.Tag.{Tag}
use Rattle.reg_text.specs.declared.reading.tag.Tag.TheVariants.{Format, Day, Period, Current, Lags, Surrender, Admin}
use Rattle.reg_text.specs.declared.reading.tag.Tag.TheVariants.{Work, Account, Correction, User, Trusted, Retired}
use Rattle.reg_text.specs.declared.reading.tag.Tag.TheVariants.{Emissions, Figure, Do, End}
use Rattle.reg_text.specs.declared.reading.scope.Version.{Version}
use Rattle.reg_text.specs.Causes.{◌>>=◌, test}
use Rattle.reg_text.specs.Words.{named}
use Rattle.reg_text.specs.Grammar.{row_kind, tag_word}

-- all tags by their stages: those of the rows before the accounts, those of the lists of an account, and the others
abbrev pub heading_tags : List Tag
heading_tags = Format ∷ Day ∷ Period ∷ Current ∷ Lags ∷ Surrender ∷ Admin ∷ Work ∷ []

abbrev pub list_tags : List Tag
list_tags = Correction ∷ User ∷ Trusted ∷ Retired ∷ Emissions ∷ Figure ∷ []

abbrev pub later_tags : List Tag
later_tags = Account ∷ list_tags ++ Do ∷ End ∷ []

abbrev pub all_tags : List Tag
all_tags = heading_tags ++ later_tags

-- the stage of a row with a tag, and between which stages the row before it stands in a version
abbrev pub tag_stage : Tag → ℕ
tag_stage t = (row_kind t).stage

abbrev pub stages : Version → Tag → Stages
stages version t = record {
  stage = tag_stage t;
  from = ((row_kind t).allowed version).0;
  to = ((row_kind t).allowed version).1;
}

-- a row with this tag may stand somewhere
abbrev pub is_in_version : Version → Tag → Bool
is_in_version version t = nat_le (stages version t).from (stages version t).to

-- a row with this tag occurs at most once, because it may not follow itself
abbrev pub is_once : Version → Tag → Bool
is_once version t = nat_lt (stages version t).to (tag_stage t)

-- a row with this tag has to come before those behind it
abbrev pub is_needed : Version → Tag → Bool
is_needed version Format = true
is_needed version Day = true
is_needed version Period = true
is_needed version Current = is_in_version version Current
is_needed version Lags = true
is_needed version End = true
is_needed version t = false

-- the stage of the last row; 0 before the first
abbrev pub stage : Option Tag → ℕ
stage None = 0
stage (Some t) = tag_stage t

abbrev pub may_follow : Version → Option Tag → Tag → Bool
may_follow version last t = nat_le (stages version t).from (stage last) && nat_le (stage last) (stages version t).to

-- the tag that a field names, if it is allowed after the last row
abbrev pub tag_after : Version → Option Tag → List ℕ → Result Tag Cause
tag_after version last f = named cause.Tag tag_word all_tags f >>= λ t. test (may_follow version last t) cause.Tag t
