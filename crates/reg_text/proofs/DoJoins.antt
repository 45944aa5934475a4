-- Rows that begin with an instruction add the same behind any rows with the same heading: what they say depends on the
-- draft before them only through its heading and how many instructions it has.
use Rattle.std.proofs.Common.{◌≡◌, ℕ, ◌+◌, ◌-◌, ◌<◌, ◌≤◌, Bool, true, false, List, [], ◌∷◌, ◌++◌, length, Option, Some}
use Rattle.std.proofs.Common.{None, Ok, refl, sym, ap, subst, ◌∙◌, arith, append_assoc, length-append}
use Rattle.std.specs.Prelude.{nat_lt, ◌&&◌}
use Rattle.std.proofs.lemmas.Bool.{lt-ltb, le-leb, leb-true}
use Rattle.reg_text.proofs.Names.{MOST_INSTRUCTIONS, MOST_RECORD, Tag, Version, One, Two, Scope, TextRow, field, named}
use Rattle.reg_text.proofs.Names.{all_tags, tag_word, stages, stage, may_follow, Said, row}
use Rattle.reg_text.proofs.Names.{DraftValue, scope_of, with, has_space, next_draft, drafted, next_in, is_number_left}
use Rattle.reg_text.specs.declared.cause.Cause.TheVariants as cause
use Rattle.reg_text.specs.declared.reading.tag.Tag.TheVariants as tag
use Rattle.reg_text.specs.Joining.{IsHeading, HasHeading, IsPart, InstructionsMayFollow, joined_drafts}
use Rattle.reg_text.proofs.Binds.{bind_ok, ok_is}
use Rattle.reg_text.proofs.TagLaws.{stage-of, goes_on}
use Rattle.reg_text.proofs.Joins.{IsTaken, taken, takes, last-with, same-scope, heading-with}

-- a draft, and behind it the instructions of another one
abbrev pub after : DraftValue → DraftValue → DraftValue
after d e = joined_drafts None d e

-- behind an instruction stands an instruction or the end
abbrev pub is_late : Tag → Bool
is_late tag.Do = true
is_late tag.End = true
is_late t = false

early-stage : (version : Version) (t : Tag) → is_late t ≡ false → (stages version t).to ≤ 89
early-stage One tag.Format e = grind arith
early-stage One t e = grind arith
early-stage Two tag.Format e = grind arith
early-stage Two t e = grind arith

too-late : (version : Version) (last : Option Tag) (t : Tag) → is_late t ≡ false → may_follow version last t ≡ true
    → 90 ≤ stage last → ⊥
too-late version last t e may begun = let p = stage-of version last t may in let low = early-stage version t e in
    omega (arith, p.high, low, begun)

-- there is a record number for fewer instructions too
number-left : (next : Option ℕ) (n m : ℕ) → n ≤ m → is_number_left next m ≡ true → is_number_left next n ≡ true
number-left None n m fewer left = refl
number-left (Some next) n m fewer left =
    le-leb (next + n) MOST_RECORD (omega (arith, leb-true (next + m) MOST_RECORD left, fewer))

both-true : (x y : Bool) → x ≡ true → y ≡ true → (x && y) ≡ true
both-true x y e f = rw (e, f) refl

space-left : (next : Option ℕ) (n m : ℕ) → n < m → m ≤ MOST_INSTRUCTIONS → is_number_left next (m - 1) ≡ true
    → (nat_lt n MOST_INSTRUCTIONS && is_number_left next n) ≡ true
space-left next n m less few left = both-true (nat_lt n MOST_INSTRUCTIONS) (is_number_left next n)
    (lt-ltb n MOST_INSTRUCTIONS (omega (arith, less, few))) (number-left next n (m - 1) (omega (arith, less)) left)

count-with : (t : Tag) (e : DraftValue) (x : Said t) → length e.instructions ≤ length (with t e x).instructions
count-with tag.Do e x = omega (arith, length-append e.instructions (x ∷ []))
count-with tag.Format e x = omega arith
count-with t e x = omega arith

count-taken : (d e : DraftValue) (r : TextRow) → IsTaken d r e → length d.instructions ≤ length e.instructions
count-taken d e r k = subst (λ (x : DraftValue). length d.instructions ≤ length x.instructions) k.gives
    (count-with k.tag d k.says)

count-drafted : (rows : List TextRow) (d e : DraftValue) → drafted d rows ≡ Ok e
    → length d.instructions ≤ length e.instructions
count-drafted [] d e eq = let same = ok_is d e eq in rw same (omega arith)
count-drafted (r ∷ rows) d e eq =
    let x = bind_ok (next_draft d r) (λ y. drafted y rows) e eq in
    omega (arith, count-taken d x.0 r (taken d x.0 r x.1), count-drafted rows x.0 e x.2)

-- a row that is taken behind an instruction of the part is taken behind the draft
after-at : (t : Tag) (h d e o : DraftValue) (r : TextRow) (x : Said t) → HasHeading h d → HasHeading h e
    → 90 ≤ stage e.last → length d.instructions + length o.instructions ≤ MOST_INSTRUCTIONS
    → is_number_left (next_in d.heading.days) (length d.instructions + length o.instructions - 1) ≡ true
    → named cause.Tag tag_word all_tags (field r 0) ≡ Ok t → may_follow (scope_of e).version e.last t ≡ true
    → (row (scope_of e) t).read r ≡ Ok x → has_space t e x ≡ true → with t e x ≡ o → IsTaken (after d e) r (after d o)
after-at tag.Do h d e o r x k l begun few left named stands reads space gives =
    let scopes : scope_of e ≡ scope_of d = sym (same-scope h e l) ∙ same-scope h d k in
    let may = subst (λ (s : Scope). may_follow s.version e.last tag.Do ≡ true) scopes stands in
    let longer : length o.instructions ≡ length e.instructions + 1 =
    ap (λ (y : DraftValue). length y.instructions) (sym gives) ∙ length-append e.instructions (x ∷ []) in
    let count : length (d.instructions ++ e.instructions) < length d.instructions + length o.instructions =
    omega (arith, longer, length-append d.instructions e.instructions) in
    record {
      tag = tag.Do;
      says = x;
      goes = goes_on (scope_of d).version e.last tag.Do may;
      named_by = named;
      stands = may;
      reads = subst (λ (s : Scope). (row s tag.Do).read r ≡ Ok x) scopes reads;
      ordered = refl;
      space = space-left (next_in d.heading.days) (length (d.instructions ++ e.instructions))
          (length d.instructions + length o.instructions) count few left;
      gives = subst (λ (y : DraftValue). with tag.Do (after d e) x ≡ after d y) gives (rw append_assoc refl);
    }
after-at tag.End h d e o r x k l begun few left named stands reads space gives =
    let scopes : scope_of e ≡ scope_of d = sym (same-scope h e l) ∙ same-scope h d k in
    let may = subst (λ (s : Scope). may_follow s.version e.last tag.End ≡ true) scopes stands in
    record {
      tag = tag.End;
      says = x;
      goes = goes_on (scope_of d).version e.last tag.End may;
      named_by = named;
      stands = may;
      reads = subst (λ (s : Scope). (row s tag.End).read r ≡ Ok x) scopes reads;
      ordered = refl;
      space = space;
      gives = subst (λ (y : DraftValue). with tag.End (after d e) x ≡ after d y) gives refl;
    }
after-at tag.Format h d e o r x k l begun few left named stands reads space gives =
    absurd (too-late (scope_of e).version e.last tag.Format refl stands begun)
after-at t h d e o r x k l begun few left named stands reads space gives =
    absurd (too-late (scope_of e).version e.last t refl stands begun)

last-late : (t : Tag) (version : Version) (last : Option Tag) → may_follow version last t ≡ true → 90 ≤ stage last
    → 90 ≤ stage (Some t)
last-late tag.Do version last may begun = omega arith
last-late tag.End version last may begun = omega arith
last-late tag.Format version last may begun = absurd (too-late version last tag.Format refl may begun)
last-late t version last may begun = absurd (too-late version last t refl may begun)

-- the rows behind the first instruction of a part
rows-after : (rows : List TextRow) (h d e f : DraftValue) → HasHeading h d → HasHeading h e → 90 ≤ stage e.last
    → length d.instructions + length f.instructions ≤ MOST_INSTRUCTIONS
    → is_number_left (next_in d.heading.days) (length d.instructions + length f.instructions - 1) ≡ true
    → drafted e rows ≡ Ok f → drafted (after d e) rows ≡ Ok (after d f)
rows-after [] h d e f k l begun few left eq = ap (λ (x : DraftValue). Ok (after d x)) (ok_is e f eq)
rows-after (r ∷ rows) h d e f k l begun few left eq =
    let x = bind_ok (next_draft e r) (λ y. drafted y rows) f eq in
    let t = taken e x.0 r x.1 in
    let fewer = count-drafted rows x.0 f x.2 in
    let less : length d.instructions + length x.0.instructions ≤ MOST_INSTRUCTIONS = omega (arith, few, fewer) in
    let there = number-left (next_in d.heading.days) (length d.instructions + length x.0.instructions - 1)
    (length d.instructions + length f.instructions - 1) (omega (arith, fewer)) left in
    let step = takes (after d e) (after d x.0) r
    (after-at t.tag h d e x.0 r t.says k l begun less there t.named_by t.stands t.reads t.space t.gives) in
    let heading = subst (HasHeading h) t.gives (heading-with h t.tag e t.says t.stands (omega (arith, begun)) l) in
    let on = subst (λ (y : DraftValue). 90 ≤ stage y.last) t.gives
    (last-late t.tag (scope_of e).version e.last t.stands begun) in
    rw step (rows-after rows h d x.0 f k heading on few left x.2)

-- the first instruction of a part that is taken behind a heading is taken behind what has the same heading
seam-at : (t : Tag) (h d o : DraftValue) (r : TextRow) (x : Said t) → IsHeading h → HasHeading h d
    → may_follow (scope_of d).version d.last tag.Do ≡ true
    → (nat_lt (length d.instructions) MOST_INSTRUCTIONS && is_number_left (next_in d.heading.days) (length
    d.instructions))
    ≡ true
    → named cause.Tag tag_word all_tags (field r 0) ≡ Ok t → (row (scope_of h) t).read r ≡ Ok x → with t h x ≡ o
    → o.last ≡ Some tag.Do → IsTaken d r (after d o)
seam-at tag.Do h d o r x is k may space named reads gives last = record {
  tag = tag.Do;
  says = x;
  goes = goes_on (scope_of d).version d.last tag.Do may;
  named_by = named;
  stands = may;
  reads = subst (λ (s : Scope). (row s tag.Do).read r ≡ Ok x) (same-scope h d k) reads;
  ordered = refl;
  space = space;
  gives = subst (λ (y : DraftValue). with tag.Do d x ≡ after d y) gives (rw is.no_instructions refl);
}
seam-at t h d o r x is k may space named reads gives last =
    let other : Some t ≡ Some tag.Do = sym (last-with t h x) ∙ ap (λ (y : DraftValue). y.last) gives ∙ last in absurd cc

-- it changes no heading, and is one
first-at : (t : Tag) (h o : DraftValue) (x : Said t) → IsHeading h → with t h x ≡ o → o.last ≡ Some tag.Do
    → HasHeading h o × (length o.instructions ≡ 1)
first-at tag.Do h o x is gives last = (
  subst (HasHeading h) gives refl,
  ap (λ (y : DraftValue). length y.instructions) (sym gives) ∙ rw is.no_instructions refl,
)
first-at t h o x is gives last = let other : Some t ≡ Some tag.Do =
    sym (last-with t h x) ∙ ap (λ (y : DraftValue). y.last) gives ∙ last in absurd cc

-- the rows of a part that begins with an instruction, read behind the draft before it, give both drafts joined
pub instructions-join : (h d e : DraftValue) (rows : List TextRow) → IsHeading h → HasHeading h d
    → InstructionsMayFollow d e → IsPart h rows None e → drafted d rows ≡ Ok (after d e)
instructions-join h d e rows is same m p =
    let k = taken h p.after_first p.row p.takes_first in
    let first = first-at k.tag h p.after_first k.says is k.gives p.begins in
    let more = count-drafted p.others p.after_first e p.goes_on in
    let one = first.1 in
    let begun : 90 ≤ stage p.after_first.last = rw p.begins (omega arith) in
    let space = space-left (next_in d.heading.days) (length d.instructions) (length d.instructions + length
    e.instructions)
    (omega (arith, more, one)) m.few m.left in
    let seam = takes d (after d p.after_first) p.row
    (seam-at k.tag h d p.after_first p.row k.says is same m.stands space k.named_by k.reads k.gives p.begins) in
    rw (p.rows_are, seam) (rows-after p.others h d p.after_first e same first.0 begun m.few m.left p.goes_on)
