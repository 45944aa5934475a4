-- Tags by their words, and by the stages at which they may stand.
use Rattle.std.proofs.Common.{◌≡◌, ℕ, ◌≤◌, true, false, nat_le, Option, Some, List, Ok, refl, subst, arith}
use Rattle.std.proofs.lemmas.Bool.{and_parts, leb-true, le-leb}
use Rattle.reg_text.specs.declared.cause.Cause.TheVariants as cause
use Rattle.reg_text.proofs.Names.{Tag, Version, One, Two, IsWithin, named, all_tags, tag_word, stages, stage}
use Rattle.reg_text.proofs.Names.{may_follow, tag_after, is_in_version, is_text_over}
use Rattle.reg_text.specs.declared.reading.tag.Tag.TheVariants as tag
use Rattle.reg_text.proofs.Binds.{bind_ok, test_ok}
use Rattle.reg_text.proofs.WordLaws.{named-spelled, own-tag}

-- a tag that may stand after another
abbrev pub MayFollow : Version → Option Tag → Tag → Type 0
MayFollow version last t = may_follow version last t ≡ true

-- what reads as a tag is its word, and it may stand here
pub tag-spelled : (version : Version) (last : Option Tag) (f : List ℕ) (t : Tag) → tag_after version last f ≡ Ok t
    → (f ≡ tag_word t) × MayFollow version last t
tag-spelled version last f t e =
    let n = bind_ok (named cause.Tag tag_word all_tags f) _ t e in
    let s = named-spelled cause.Tag tag_word all_tags f n.0 n.1 in
    let p = test_ok (may_follow version last n.0) cause.Tag n.0 t n.2 in
    subst (λ (u : Tag). (f ≡ tag_word u) × MayFollow version last u) p.1 (s, p.0)

-- and the word of a tag that may stand here reads as it
pub tag-again : (version : Version) (last : Option Tag) (t : Tag) → MayFollow version last t
    → tag_after version last (tag_word t) ≡ Ok t
tag-again version last t h = rw ((own-tag t).0 cause.Tag, h) refl

-- a tag may stand after a row at these stages, and at no others
pub stage-of : (version : Version) (last : Option Tag) (t : Tag) → MayFollow version last t
    → IsWithin (stages version t).from (stages version t).to (stage last)
stage-of version last t h = let both = and_parts (nat_le (stages version t).from (stage last))
    (nat_le (stage last) (stages version t).to) h in record { low = leb-true _ _ both.0; high = leb-true _ _ both.1 }

-- so its version knows it
pub known-there : (version : Version) (last : Option Tag) (t : Tag) → MayFollow version last t
    → is_in_version version t ≡ true
known-there version last t h = let p = stage-of version last t h in
    le-leb (stages version t).from (stages version t).to (omega (arith, p.low, p.high))

-- behind one section the next
pub later : (version : Version) (last : Option Tag) (t u : Tag) → (stages version u).from ≤ (stages version t).from
    → (stages version t).to ≤ (stages version u).to → MayFollow version last t → MayFollow version last u
later version last t u low high may = let p = stage-of version last t may in
    rw (
      le-leb (stages version u).from (stage last) (omega (arith, p.low)),
      le-leb (stage last) (stages version u).to (omega (arith, p.high)),
    ) refl

-- nothing may stand after the row `end`
pub goes_on : (version : Version) (last : Option Tag) (t : Tag) → MayFollow version last t → is_text_over last ≡ false
goes_on One (Some tag.End) tag.Format h = absurd cc
goes_on One (Some tag.End) t h = absurd cc
goes_on Two (Some tag.End) tag.Format h = absurd cc
goes_on Two (Some tag.End) t h = absurd cc
goes_on version last t h = refl
