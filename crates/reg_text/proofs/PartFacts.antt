-- Parts that were read on their own, joined one after another.
use Rattle.std.proofs.Common.{◌≡◌, ℕ, zero, suc, ◌+◌, ◌<◌, List, [], ◌∷◌, ◌++◌, length, get_or, drop, Bool, true, false}
use Rattle.std.proofs.Common.{Result, Err, IfOk, MatchBool, Option, Some, None, Ok, refl, sym, ap, subst, ◌∙◌}
use Rattle.std.proofs.Common.{append_assoc, length-append, arith}
use Rattle.std.proofs.lemmas.List.{append-nil}
use Rattle.std.specs.Result.{result_ok}
use Rattle.std.specs.Borrow.{Bor}
use Rattle.reg_cuts.specs.Parts.{IsCut, HasNoMark, EachCutSplits, CutsGoOn, text_of_parts}
use Rattle.reg_text.proofs.Names.{AccountValue, AccountHead, option_to_list, DraftValue, TextRow, IsDraft, FitsSoFar}
use Rattle.reg_text.proofs.Names.{nothing_read, behind_heading, only_heading, next_draft}
use Rattle.reg_text.proofs.Names.{drafted, after_rows, at_end, day_of_rows}
use Rattle.reg_text.proofs.Names.{day_said, is_text_over, rows_in_text}
use Rattle.reg_text.specs.declared.reading.tag.Tag.TheVariants as tag
use Rattle.reg_text.specs.declared.reading.part.Part.{Part}
use Rattle.reg_text.specs.Joining.{IsHeading, HasHeading, IsPart, MayJoin, IsReadSoFar, joined_drafts}
use Rattle.reg_text.specs.PartsRead.{IsReadPart, ReadsEach}
use Rattle.reg_text.proofs.Binds.{bind_ok, ok_is}
use Rattle.reg_text.proofs.DraftSteps.{grows, nothing-fits}
use Rattle.reg_text.proofs.Readings.{closes}
use Rattle.reg_text.proofs.Joins.{accounts-join}
use Rattle.reg_text.proofs.DoJoins.{instructions-join}

-- ---- rows that are taken

drafted-then : (xs ys : List TextRow) (d e f : DraftValue) → drafted d xs ≡ Ok e → drafted e ys ≡ Ok f
    → drafted d (xs ++ ys) ≡ Ok f
drafted-then [] ys d e f first second = rw (ok_is d e first) second
drafted-then (r ∷ xs) ys d e f first second = let x = bind_ok (next_draft d r) (λ y. drafted y xs) e first in
    rw x.1 (drafted-then xs ys x.0 e f x.2 second)

-- a row that was found, and one that is taken
pub found-one : {E : Type 0} (read : Result Bool E) (found : Bool) (here gone : Type 0) → Some found ≡ result_ok read
    → found ≡ true → IfOk read (λ b. MatchBool b here gone) → here
found-one (Ok true) found here gone is on h = h
found-one (Ok false) found here gone is on h = let same : found ≡ false = cc in absurd cc
found-one (Err e) found here gone is on h = absurd cc

pub one-taken : (d e : DraftValue) (r : TextRow) (rows others : List TextRow) → rows ≡ r ∷ others
    → next_draft d r ≡ Ok e
    → drafted e others ≡ drafted d rows
one-taken d e r rows others is step = rw (is, step) refl

-- a heading with nothing behind it
pub heading-is : (d : DraftValue) → IsHeading d → d ≡ only_heading d.heading d.last
heading-is d h = λ i. record {
  last = d.last;
  heading = d.heading;
  accounts = h.no_accounts i;
  head = h.no_head i;
  lists = h.no_lists i;
  instructions = h.no_instructions i;
}

-- what rows make of a draft is a draft
drafts : (rows : List TextRow) (d e : DraftValue) → IsDraft d → drafted d rows ≡ Ok e → IsDraft e
drafts [] d e h eq = subst IsDraft (ok_is d e eq) h
drafts (r ∷ rows) d e h eq =
    let x = bind_ok (next_draft d r) (λ y. drafted y rows) e eq in
    drafts rows x.0 e (grows d x.0 r h x.1).draft x.2

pub so-far-fits : (h d : DraftValue) (text : List ℕ) → IsReadSoFar h text d → IsDraft d
so-far-fits h d text s = drafts (rows_in_text text) nothing_read d nothing-fits s.read

-- what a draft says is what its rows say
after-drafted : (rows : List TextRow) (n : ℕ) (d e : DraftValue) → drafted d rows ≡ Ok e
    → after_rows n d rows ≡ at_end (n + length rows) (day_said e)
after-drafted [] n d e eq = let zero_more : n + 0 ≡ n = omega arith in rw (ok_is d e eq, zero_more) refl
after-drafted (r ∷ rows) n d e eq =
    let x = bind_ok (next_draft d r) (λ y. drafted y rows) e eq in
    let at : n + length (r ∷ rows) ≡ n + 1 + length rows = omega arith in
    rw (x.1, at) (after-drafted rows (n + 1) x.0 e x.2)

pub finished : (h d : DraftValue) (text : List ℕ) → IsReadSoFar h text d → d.last ≡ Some tag.End
    → FitsSoFar d × (day_of_rows (rows_in_text text) ≡ at_end 0 (day_said d))
finished h d text s over =
    let fits = so-far-fits h d text s in
    let said = (closes d fits.fits (ap is_text_over over)).said in
    (fits.fits, after-drafted (rows_in_text text) 1 nothing_read d s.read ∙ rw said refl)

-- ---- a part behind a text

heading-joined : (h d e : DraftValue) (first : Option ℕ) → HasHeading h d → HasHeading h (joined_drafts first d e)
heading-joined h d e (Some number) k = k
heading-joined h d e None k = k

-- the rows of a part, read behind the draft before it, give both drafts joined
pub joins : (h d e : DraftValue) (rows : List TextRow) (first : Option ℕ) → IsHeading h → HasHeading h d
    → MayJoin first d e → IsPart h rows first e → (drafted d rows ≡ Ok (joined_drafts first d e))
    × HasHeading h (joined_drafts first d e)
joins h d e rows (Some number) is same m p =
    (accounts-join h d e rows number is same m p, heading-joined h d e (Some number) same)
joins h d e rows None is same m p = (instructions-join h d e rows is same m p, heading-joined h d e None same)

one-more : (h d e : DraftValue) (text part : List ℕ) (first : Option ℕ) → EachCutSplits → CutsGoOn → IsHeading h
    → IsReadSoFar h text d → MayJoin first d e → IsCut part → HasNoMark part → IsPart h (rows_in_text part) first e
    → IsReadSoFar h (text ++ part) (joined_drafts first d e)
one-more h d e text part first splits go_on is so_far m cut mark p =
    let both = joins h d e (rows_in_text part) first is so_far.heading m p in
    record {
      read = rw (splits text part so_far.cut mark)
          (drafted-then (rows_in_text text) (rows_in_text part) nothing_read d (joined_drafts first d e) so_far.read
          both.0);
      cut = go_on text part so_far.cut mark cut;
      heading = both.1;
    }

-- ---- what a joined draft keeps

pub joined-count : (n m : ℕ) (head other : Option AccountHead) (xs ys all : List AccountValue)
    → n ≡ length xs + length (option_to_list head) → head ≡ None → m ≡ length ys + length (option_to_list other)
    → all ≡ xs ++ ys → n + m ≡ length all + length (option_to_list other)
joined-count n m head other xs ys all first none second is =
    let none_there : length (option_to_list head) ≡ 0 =
    ap (λ (o : Option AccountHead). length (option_to_list o)) none in
    let both : length all ≡ length xs + length ys = ap length is ∙ length-append xs ys in
    omega (arith, first, second, none_there, both)

-- ---- parts one after another

pub reads-each : (h : DraftValue) (parts : List (Bor (List ℕ))) (read : List (Option Part)) → length read ≡ length parts
    → ((i : ℕ) (p : Bor (List ℕ)) (o : Option Part) → i < length parts
    → IsReadPart h (get_or parts i p).now (get_or read i o)) → ReadsEach h parts read
unfolding ReadsEach
reads-each h [] [] len each = tt
reads-each h [] (o ∷ read) len each = absurd (omega arith)
reads-each h (p ∷ parts) [] len each = absurd (omega arith)
reads-each h (p ∷ parts) (o ∷ read) len each =
    (each zero p o (omega arith), reads-each h parts read (omega arith) (λ i q r lt. each (suc i) q r (omega arith)))

-- the first of them, and the others
pub record IsFirstOf (h : DraftValue) (rest : List (Bor (List ℕ))) (o : Option Part) (others : List (Option Part)) :
    Type 0 where
  pub part : Bor (List ℕ)
  pub rest_is : rest ≡ part ∷ drop 1 rest
  pub read : IsReadPart h part.now o
  pub others_read : ReadsEach h (drop 1 rest) others

pub first-of : (h : DraftValue) (rest : List (Bor (List ℕ))) (o : Option Part) (others : List (Option Part))
    → ReadsEach h rest (o ∷ others) → IsFirstOf h rest o others
unfolding ReadsEach
first-of h [] o others each = absurd each
first-of h (p ∷ rest) o others each = record { part = p; rest_is = refl; read = each.0; others_read = each.1 }

-- what is known before a part is joined: of a text and the parts behind it that are a whole text
pub record IsJoined (h : DraftValue) (whole : List ℕ) (rest : List (Bor (List ℕ))) (d : DraftValue) : Type 0 where
  pub text : List ℕ
  pub so_far : IsReadSoFar h text d
  pub is_whole : text ++ text_of_parts rest ≡ whole

pub part-joined : (h d e : DraftValue) (whole : List ℕ) (rest : List (Bor (List ℕ))) (p : Part)
    (others : List (Option Part)) → EachCutSplits → CutsGoOn → IsHeading h → IsJoined h whole rest d
    → ReadsEach h rest (Some p ∷ others) → MayJoin p.first d (behind_heading h.heading p.body)
    → e ≡ joined_drafts p.first d (behind_heading h.heading p.body)
    → ReadsEach h (drop 1 rest) others × IsJoined h whole (drop 1 rest) e
part-joined h d e whole rest p others splits go_on heading j each may joins =
    let f = first-of h rest (Some p) others each in
    let one = one-more h d (behind_heading h.heading p.body) j.text f.part.now p.first splits go_on heading j.so_far
    may f.read.0
    f.read.1 f.read.2 in (
      f.others_read,
      record {
        text = j.text ++ f.part.now;
        so_far = subst (IsReadSoFar h (j.text ++ f.part.now)) (sym joins) one;
        is_whole = append_assoc j.text f.part.now (text_of_parts (drop 1 rest))
            ∙ ap (λ (parts : List (Bor (List ℕ))). j.text ++ text_of_parts parts) (sym f.rest_is) ∙ j.is_whole;
      },
    )

-- no part is left
pub all-joined : (h d : DraftValue) (whole : List ℕ) (rest : List (Bor (List ℕ))) (read : List (Option Part))
    → IsJoined h whole rest d → ReadsEach h rest read → length read ≡ 0 → IsReadSoFar h whole d
unfolding ReadsEach
all-joined h d whole [] [] j each none =
    subst (λ (text : List ℕ). IsReadSoFar h text d) (sym (append-nil j.text) ∙ j.is_whole) j.so_far
all-joined h d whole (p ∷ rest) [] j each none = absurd each
all-joined h d whole rest (o ∷ read) j each none = absurd (omega arith)
