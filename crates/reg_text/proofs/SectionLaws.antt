-- Sections: one row more at the end of one, and what stays of the others.
use Rattle.std.proofs.Common.{◌≡◌, ℕ, ◌<◌, ◌≤◌, true, List, [], ◌∷◌, ◌++◌, length, map, Option, Some, None, refl, sym}
use Rattle.std.proofs.Common.{ap, ◌∙◌, arith, append_assoc, length-append}
use Rattle.std.proofs.lemmas.Bool.{ltb-true, lt-ltb, le-leb}
use Rattle.std.proofs.lemmas.List.{append-nil, length-map, map-append}
use Rattle.std.specs.List.{AllByRecursion, flat_map}
use Rattle.std.proofs.lemmas.Grind.{flat_map-append}
use Rattle.reg_facts.proofs.lemmas.Lists.{all-append, all-push, all-first, all-rest}
use Rattle.reg_text.proofs.Names.{Tag, Version, Scope, TextRow, stages, tag_stage, last_item, is_above, Said, row}
use Rattle.reg_text.proofs.Names.{Section, item_rows, section_rows, all_rows, Key, key, follows, IsOrdered, most}
use Rattle.reg_text.proofs.Names.{is_space, AreAtMost, IsSection, stands_at, has_to_come, SectionStandsAt}
use Rattle.reg_text.specs.Grammar.{row_text}
use Rattle.reg_text.proofs.ListFacts.{all-both}
use Rattle.reg_text.proofs.RisingFacts.{above-push, above-at, last-key}

-- ---- the rows

no-rows : (ss : List Section) → AllByRecursion (λ (s : Section). s.1 ≡ []) ss → all_rows ss ≡ []
no-rows [] e = refl
no-rows (s ∷ ss) e = rw e.0 (no-rows ss e.1)

pub rows-append : (a b : List Section) → all_rows (a ++ b) ≡ all_rows a ++ all_rows b
rows-append [] b = refl
rows-append (s ∷ a) b = ap (λ (t : List TextRow). section_rows s ++ t) (rows-append a b)
    ∙ sym (append_assoc (section_rows s) (all_rows a) (all_rows b))

-- the rows with one more at the end of a section behind which nothing stands
abbrev pub grown : (t : Tag) → List (Said t) → Said t → List Section → List Section
grown t xs x behind = (Some t, xs ++ x ∷ []) ∷ behind

abbrev pub shorter : (t : Tag) → List (Said t) → List Section → List Section
shorter t xs behind = (Some t, xs) ∷ behind

pub push : (before : List Section) (t : Tag) (xs : List (Said t)) (x : Said t) (behind : List Section)
    → AllByRecursion (λ (s : Section). s.1 ≡ []) behind
    → all_rows (before ++ grown t xs x behind) ≡ all_rows (before ++ shorter t xs behind) ++ row_text t x ∷ []
push [] t xs x behind e =
    let more = flat_map-append (item_rows (Some t)) xs (x ∷ []) in
    rw (no-rows behind e) (append-nil _ ∙ more
    ∙ ap (λ (rows : List TextRow). rows ++ row_text t x ∷ [])
    (sym (append-nil (flat_map (item_rows (Some t)) xs))))
push (b ∷ before) t xs x behind e =
    ap (λ (rows : List TextRow). section_rows b ++ rows) (push before t xs x behind e)
    ∙ sym (append_assoc (section_rows b) (all_rows (before ++ shorter t xs behind)) (row_text t x ∷ []))

-- ---- order and length

same-length : {X : Type 0} (k : Key X) (xs : List X) → length (map k.ends xs) ≡ length (map k.begins xs)
same-length k xs = length-map xs k.ends ∙ sym (length-map xs k.begins)

pub ordered-push : {X : Type 0} (o : Option (Key X)) (xs : List X) (x : X) → IsOrdered o xs
    → follows o (last_item xs) x ≡ true → IsOrdered o (xs ++ x ∷ [])
ordered-push None xs x h e = tt
ordered-push (Some k) xs x h e =
    rw (map-append k.ends xs (x ∷ []), map-append k.begins xs (x ∷ []))
    (above-push (map k.ends xs) (map k.begins xs) (k.ends x) (k.begins x) (same-length k xs) h
    (ap (λ (b : Option ℕ). is_above b (k.begins x)) (sym (last-key k.ends xs)) ∙ e))

pub ordered-at : {X : Type 0} (o : Option (Key X)) (xs : List X) (x : X) (others : List X)
    → IsOrdered o (xs ++ x ∷ others) → follows o (last_item xs) x ≡ true
ordered-at None xs x others h = refl
ordered-at (Some k) xs x others h =
    ap (λ (b : Option ℕ). is_above b (k.begins x)) (last-key k.ends xs)
    ∙ above-at (map k.ends xs) (map k.begins xs) (k.ends x) (k.begins x) (map k.ends others) (map k.begins others)
    (same-length k xs) (rw (map-append k.ends xs (x ∷ others), map-append k.begins xs (x ∷ others)) at h)

pub few-push : {X : Type 0} (o : Option ℕ) (xs : List X) (x : X) → is_space o (length xs) ≡ true
    → AreAtMost o (length (xs ++ x ∷ []))
few-push None xs x e = tt
few-push (Some limit) xs x e = omega (arith, ltb-true _ _ e, length-append xs (x ∷ []))

pub space-at : {X : Type 0} (o : Option ℕ) (xs : List X) (x : X) (others : List X)
    → AreAtMost o (length (xs ++ x ∷ others)) → is_space o (length xs) ≡ true
space-at None xs x others h = refl
space-at (Some limit) xs x others h = lt-ltb _ _ (omega (arith, length-append xs (x ∷ others), h))

-- nothing is within all limits
empty-ordered : {X : Type 0} (o : Option (Key X)) → IsOrdered o []
empty-ordered None = tt
empty-ordered (Some k) = λ n lt. absurd (omega arith)

empty-few : (o : Option ℕ) → AreAtMost o 0
empty-few None = tt
empty-few (Some limit) = omega arith

pub empty-section : (scope : Scope) (t : Tag) → IsSection scope (Some t, [])
empty-section scope t = record {
  fits = tt;
  listed = record { ordered = empty-ordered (key t); few = empty-few (most t) };
}

-- a section with one row more
pub section-push : (scope : Scope) (t : Tag) (xs : List (Said t)) (x : Said t) → IsSection scope (Some t, xs)
    → (row scope t).Fits x → follows (key t) (last_item xs) x ≡ true → is_space (most t) (length xs) ≡ true
    → IsSection scope (Some t, xs ++ x ∷ [])
section-push scope t xs x h fits order space = record {
  fits = all-push (row scope t).Fits xs x h.fits fits;
  listed = record { ordered = ordered-push (key t) xs x h.listed.ordered order; few = few-push (most t) xs x space };
}

-- ---- where sections stand

-- the section of a later row; that of an earlier one, which has come before this row if it has to come
pub record IsLater (t : Tag) (part : Option Tag) : Type 0 where
  pub above : tag_stage t < stands_at part

pub record IsEarlier (version : Version) (t : Tag) (part : Option Tag) : Type 0 where
  pub before : has_to_come version part ≡ true → stands_at part ≤ (stages version t).from

abbrev pub AreLater : Tag → List Section → Type 0
AreLater t ss = AllByRecursion (λ (s : Section). IsLater t s.0) ss

abbrev pub AreEarlier : Version → Tag → List Section → Type 0
AreEarlier version t ss = AllByRecursion (λ (s : Section). IsEarlier version t s.0) ss

-- the section of a row that came
stands-grown : (version : Version) (at : ℕ) (t : Tag) (xs : List (Said t)) (x : Said t) → (stages version t).from ≤ at
    → at ≤ (stages version t).to → SectionStandsAt version at (Some t, xs)
    → SectionStandsAt version (tag_stage t) (Some t, xs ++ x ∷ [])
stands-grown version at t xs x low high h = record {
  begun = λ lt. absurd (omega arith);
  come = λ le needed. omega (arith, length-append xs (x ∷ []));
  once = λ once. rw (h.begun (omega (arith, ltb-true _ _ once))) (omega arith);
  known = λ foreign. let known = le-leb (stages version t).from (stages version t).to (omega (arith, low, high)) in
      absurd cc;
}

-- after a row more, each section stands as it should
pub stand-push : (version : Version) (at : ℕ) (t : Tag) (before : List Section) (xs : List (Said t)) (x : Said t)
    (behind : List Section)
    → (stages version t).from ≤ at → at ≤ (stages version t).to → at ≤ tag_stage t → AreEarlier version t before
    → AreLater t behind
    → AllByRecursion (SectionStandsAt version at) (before ++ shorter t xs behind)
    → AllByRecursion (SectionStandsAt version (tag_stage t)) (before ++ grown t xs x behind)
stand-push version at t before xs x behind low high up earlier later h =
    let tail = all-rest (SectionStandsAt version at) before (shorter t xs behind) h in
    all-append (SectionStandsAt version (tag_stage t)) before (grown t xs x behind)
    (all-both (λ (s : Section). IsEarlier version t s.0) (SectionStandsAt version at)
    (SectionStandsAt version (tag_stage t))
    (λ s e k. record {
      begun = λ lt. k.begun (omega arith);
      come = λ le needed. k.come (omega (arith, e.before needed)) needed;
      once = k.once;
      known = k.known;
    })
    before earlier (all-first (SectionStandsAt version at) before (shorter t xs behind) h)) (
      stands-grown version at t xs x low high tail.0,
      all-both (λ (s : Section). IsLater t s.0) (SectionStandsAt version at) (SectionStandsAt version (tag_stage t))
          (λ s e k. record {
            begun = λ lt. k.begun (omega (arith, e.above));
            come = λ le needed. absurd (omega (arith, e.above));
            once = k.once;
            known = k.known;
          }) behind later
          tail.1,
    )

-- behind the section of a row nothing has begun
pub empty-behind : (version : Version) (at : ℕ) (t : Tag) (behind : List Section) → at ≤ tag_stage t → AreLater t behind
    → AllByRecursion (SectionStandsAt version at) behind → AllByRecursion (λ (s : Section). s.1 ≡ []) behind
empty-behind version at t behind up later h =
    all-both (λ (s : Section). IsLater t s.0) (SectionStandsAt version at) (λ (s : Section). s.1 ≡ [])
    (λ s e k. k.begun (omega (arith, e.above))) behind later h
