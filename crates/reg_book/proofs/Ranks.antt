-- Where the accounts of each instruction stand, among all accounts and among the marked ones.
use Rattle.std.proofs.Common.{◌≡◌, ℕ, zero, suc, ◌+◌, ◌<◌, Bool, true, false, cond, List, [], ◌∷◌, ◌++◌, map, length}
use Rattle.std.proofs.Common.{get_or, set, take, drop, refl, sym, ap, subst, ◌∙◌, arith}
use Rattle.std.specs.List.{AllByRecursion}
use Rattle.std.proofs.lemmas.List.{map-append, map-set, take_more, length-map, get_or_default}
use Rattle.std.proofs.lemmas.List.Edits.{map_over_more}
use Rattle.std.proofs.lemmas.List.Elements.{All-from_recursion}
use Rattle.arrayvec.specs.ArrayVec.{ArrayVec}
use Rattle.std.proofs.lemmas.Bool.{or_left, or_right}
use Rattle.reg_facts.proofs.lemmas.Lists.{all-push}
use Rattle.reg_base.specs.declared.instruction.Instruction.{Instruction}
use Rattle.reg_base.specs.Directory.{DirectoryValue}
use Rattle.reg_base.specs.Footprint.{footprint, is_among}
use Rattle.reg_base.proofs.lemmas.Among.{all_among}
use Rattle.reg_rules.specs.State.{State, numbers}
use Rattle.reg_base.specs.Touches.{is_touched}
use Rattle.reg_rules.proofs.lemmas.Accounts.{length-numbers}
use Rattle.reg_book.specs.Marks.{picked, ranks_from}
use Rattle.reg_base.specs.Footprints.{footprints}
use Rattle.reg_book.specs.Indexes.{StandAt, AllStandAt, each_at, index_lists}
use Rattle.reg_book.proofs.Marks.{touched_marks, size-touched_marks}
use Rattle.reg_book.proofs.Standing.{StandsAt}

-- one account more
pub stand-more : (s : State) (ps more wanted : List ℕ) (j a p : ℕ) → j < length wanted → a ≡ get_or wanted j a
    → more ≡ ps ++ p ∷ [] → StandsAt s p a
    → StandAt (numbers s) ps (take j wanted) → StandAt (numbers s) more (take (j + 1) wanted)
stand-more s ps more wanted j a p lt at grown there so_far =
    subst (λ qs. StandAt (numbers s) qs (take (j + 1) wanted)) (sym grown) (record {
      within = all-push (λ q. q < length (numbers s)) ps p so_far.within
          (omega (arith, there.within, length-numbers s));
      are_there = map-append (λ q. get_or (numbers s) q 0) ps (p ∷ [])
          ∙ ap (λ xs. xs ++ get_or (numbers s) p 0 ∷ []) so_far.are_there
          ∙ ap (λ x. take j wanted ++ x ∷ []) (there.has_number ∙ at)
          ∙ sym (take_more wanted j a lt);
    })

-- one instruction more
pub all-stand-more : (directory : DirectoryValue) (ns : List ℕ) (all more : List (ArrayVec ℕ)) (own : ArrayVec ℕ)
    (is : List Instruction) (j : ℕ) (i : Instruction)
    → j < length is → i ≡ get_or is j i → more ≡ all ++ own ∷ [] → StandAt ns own.items (footprint directory i.act)
    → AllStandAt directory ns (index_lists all) (take j is)
    → AllStandAt directory ns (index_lists more) (take (j + 1) is)
all-stand-more directory ns all more own is j i lt at grown there so_far =
    let lists : index_lists more ≡ index_lists all ++ own.items ∷ [] =
    ap index_lists grown ∙ map-append (λ (p : ArrayVec ℕ). p.items) all (own ∷ []) in
    subst (λ ls. AllStandAt directory ns ls (take (j + 1) is)) (sym lists) (record {
      within = all-push (AllByRecursion (λ p. p < length ns)) (index_lists all) own.items so_far.within there.within;
      are_there = map-append (each_at ns) (index_lists all) (own.items ∷ [])
          ∙ ap (λ xs. xs ++ each_at ns own.items ∷ []) so_far.are_there
          ∙ ap (λ x. footprints directory (take j is) ++ x ∷ [])
          (there.are_there ∙ ap (λ (x : Instruction). footprint directory x.act) at)
          ∙ sym (map-append (λ (x : Instruction). footprint directory x.act) (take j is) (get_or is j i ∷ []))
          ∙ sym (ap (footprints directory) (take_more is j i lt));
    })

-- a marked account stands among the marked ones at its rank
record IsRanked (count : ℕ) (marks : List Bool) (s : State) (p r : ℕ) : Type 0 where
  rank : get_or (ranks_from count marks) p 0 ≡ count + r
  within : r < length (picked marks s)
  same : get_or (numbers (picked marks s)) r 0 ≡ get_or (numbers s) p 0

rank-at : (marks : List Bool) (s : State) (count p : ℕ) → length marks ≡ length s → p < length s
    → get_or marks p false ≡ true → (r : ℕ) × IsRanked count marks s p r
rank-at [] s count p size lt set = absurd (omega (arith, size))
rank-at (m ∷ ms) [] count p size lt set = absurd (omega arith)
rank-at (true ∷ ms) (v ∷ vs) count zero size lt set =
    (0, record { rank = omega arith; within = omega arith; same = refl })
rank-at (false ∷ ms) (v ∷ vs) count zero size lt set = absurd cc
rank-at (true ∷ ms) (v ∷ vs) count (suc p) size lt set =
    let (r, h) = rank-at ms vs (count + 1) p (omega (arith, size)) (omega arith) set in
    (suc r, record { rank = omega (arith, h.rank); within = omega (arith, h.within); same = h.same })
rank-at (false ∷ ms) (v ∷ vs) count (suc p) size lt set =
    let (r, h) = rank-at ms vs count p (omega (arith, size)) (omega arith) set in
    (r, record { rank = h.rank; within = h.within; same = h.same })

mark-at : (directory : DirectoryValue) (is : List Instruction) (s : State) (p : ℕ) → p < length s
    → get_or (touched_marks directory is s) p false ≡ is_touched directory is (get_or (numbers s) p 0)
mark-at directory is [] p lt = absurd (omega arith)
mark-at directory is (v ∷ vs) zero lt = refl
mark-at directory is (v ∷ vs) (suc p) lt = mark-at directory is vs p (omega arith)

pub size-ranks_from : (count : ℕ) (marks : List Bool) → length (ranks_from count marks) ≡ length marks
size-ranks_from count [] = refl
size-ranks_from count (m ∷ ms) = ap suc (size-ranks_from (cond m (count + 1) count) ms)

module _ (directory : DirectoryValue) (all : List Instruction) (s : State) where
  abbrev marks : List Bool
  marks = touched_marks directory all s

  abbrev kept : List ℕ
  kept = numbers (picked marks s)

  abbrev ranks : List ℕ
  ranks = ranks_from 0 marks

  index-ranked : (p : ℕ) → p < length (numbers s) → is_touched directory all (get_or (numbers s) p 0) ≡ true
      → (get_or ranks p 0 < length kept) × (get_or kept (get_or ranks p 0) 0 ≡ get_or (numbers s) p 0)
  index-ranked p lt touched =
      let within : p < length s = omega (arith, lt, length-numbers s) in
      let (r, h) = rank-at marks s 0 p (size-touched_marks directory all s) within (mark-at directory all s p within
      ∙ touched) in
      let is : get_or ranks p 0 ≡ r = omega (arith, h.rank) in
      (omega (arith, is, h.within, length-numbers (picked marks s)), ap (λ k. get_or kept k 0) is ∙ h.same)

  indexes-ranked : (ps wanted : List ℕ) → AllByRecursion (λ p. p < length (numbers s)) ps
      → each_at (numbers s) ps ≡ wanted → AllByRecursion (λ a. is_touched directory all a ≡ true) wanted
      → AllByRecursion (λ r. r < length kept) (each_at ranks ps) × (each_at kept (each_at ranks ps) ≡ wanted)
  indexes-ranked [] wanted within there touched = (tt, there)
  indexes-ranked (p ∷ ps) wanted within there touched =
      let own = subst (AllByRecursion (λ a. is_touched directory all a ≡ true)) (sym there) touched in
      let (first, same) = index-ranked p within.0 own.0 in
      let (more, sames) = indexes-ranked ps (each_at (numbers s) ps) within.1 refl own.1 in (
        (first, more),
        ap (λ x. x ∷ each_at kept (each_at ranks ps)) same ∙ ap (λ xs. get_or (numbers s) p 0 ∷ xs) sames
            ∙ there,
      )

  -- the instructions touch no account but those that all together touch
  abbrev Within : List Instruction → Type 0
  Within is = (a : ℕ) → is_touched directory is a ≡ true → is_touched directory all a ≡ true

  all-ranked : (indexes : List (List ℕ)) (is : List Instruction) → Within is
      → AllByRecursion (AllByRecursion (λ p. p < length (numbers s))) indexes
      → map (each_at (numbers s)) indexes ≡ footprints directory is
      → AllByRecursion (AllByRecursion (λ r. r < length kept)) (map (each_at ranks) indexes)
      × (map (each_at kept) (map (each_at ranks) indexes) ≡ footprints directory is)
  all-ranked [] is inside within there = (tt, there)
  all-ranked (ps ∷ indexes) [] inside within there = absurd cc
  all-ranked (ps ∷ indexes) (i ∷ is) inside within there =
      let touched = all_among (λ a. is_touched directory all a ≡ true) (footprint directory i.act)
      (λ a h. inside a (or_left (is_among (footprint directory i.act) a) (is_touched directory is a) h)) in
      let (first, same) = indexes-ranked ps (footprint directory i.act) within.0
      (ap (λ (ls : List (List ℕ)). get_or ls 0 []) there) touched in
      let (more, sames) = all-ranked indexes is
      (λ a h. inside a (or_right (is_among (footprint directory i.act) a) (is_touched directory is a) h))
      within.1 (ap (λ (ls : List (List ℕ)). drop 1 ls) there) in (
        (first, more),
        ap (λ x. x ∷ map (each_at kept) (map (each_at ranks) indexes)) same
            ∙ ap (λ xs. footprint directory i.act ∷ xs) sames,
      )

  pub size-ranks : length ranks ≡ length (numbers s)
  size-ranks = size-ranks_from 0 marks ∙ size-touched_marks directory all s ∙ sym (length-numbers s)

  pub touched-ranked : (indexes : List (List ℕ)) → AllStandAt directory (numbers s) indexes all
      → AllStandAt directory kept (map (each_at ranks) indexes) all
  touched-ranked indexes stand =
      let (within, there) = all-ranked indexes all (λ a h. h) stand.within stand.are_there in
      record { within = within; are_there = there }

-- where the accounts of one instruction stand
pub stand-of : (directory : DirectoryValue) (ns : List ℕ) (vs : List (ArrayVec ℕ)) (is : List Instruction) (j : ℕ)
    (v : ArrayVec ℕ) (i : Instruction)
    → AllStandAt directory ns (index_lists vs) is → j < length is → v ≡ get_or vs j v → i ≡ get_or is j i
    → StandAt ns v.items (footprint directory i.act)
stand-of directory ns vs [] j v i all lt at now = absurd (omega arith)
stand-of directory ns [] (x ∷ is) j v i all lt at now = absurd (let e = all.are_there in cc)
stand-of directory ns (w ∷ vs) (x ∷ is) zero v i all lt at now = record {
  within = subst (λ (u : ArrayVec ℕ). AllByRecursion (λ p. p < length ns) u.items) (sym at) all.within.0;
  are_there = ap (λ (u : ArrayVec ℕ). each_at ns u.items) at
      ∙ ap (λ (ls : List (List ℕ)). get_or ls 0 []) all.are_there
      ∙ sym (ap (λ (u : Instruction). footprint directory u.act) now);
}
stand-of directory ns (w ∷ vs) (x ∷ is) (suc j) v i all lt at now =
    stand-of directory ns vs is j v i
    (record { within = all.within.1; are_there = ap (λ (ls : List (List ℕ)). drop 1 ls) all.are_there })
    (omega arith) at now

-- the indexes of one instruction
item-of : (vs : List (ArrayVec ℕ)) (i : ℕ) (v : ArrayVec ℕ) → i < length vs → v ≡ get_or vs i v
    → get_or (index_lists vs) i [] ≡ v.items
item-of [] i v lt at = absurd (omega arith)
item-of (w ∷ vs) zero v lt at = ap (λ (u : ArrayVec ℕ). u.items) (sym at)
item-of (w ∷ vs) (suc i) v lt at = item-of vs i v (omega arith) at

-- are all within
pub each-within : (size : ℕ) (vs : List (ArrayVec ℕ)) (i : ℕ) (v : ArrayVec ℕ)
    → AllByRecursion (AllByRecursion (λ p. p < size)) (index_lists vs) → i < length vs → v ≡ get_or vs i v
    → AllByRecursion (λ p. p < size) v.items
each-within size vs i v within lt at =
    subst (AllByRecursion (λ p. p < size)) (item-of vs i v lt at)
    (All-from_recursion (AllByRecursion (λ p. p < size)) (index_lists vs) within i []
    (omega (arith, lt, length-map vs (λ (p : ArrayVec ℕ). p.items))))

-- what is not written yet, in a loop that writes over each item
not-yet : {X : Type 0} (f : X → X) (xs : List X) (i : ℕ) (d : X) → i < length xs
    → get_or (map f (take i xs) ++ drop i xs) i d ≡ get_or xs i d
not-yet f [] i d lt = absurd (omega arith)
not-yet f (x ∷ xs) zero d lt = refl
not-yet f (x ∷ xs) (suc i) d lt = not-yet f xs i d (omega arith)

-- the indexes of one instruction, before their ranks are put in their stead
pub not-ranked : (ranks : List ℕ) (now vs : List (ArrayVec ℕ)) (i : ℕ) (v : ArrayVec ℕ) → i < length vs → i < length now
    → v ≡ get_or vs i v
    → index_lists vs ≡ map (each_at ranks) (take i (index_lists now)) ++ drop i (index_lists now)
    → AllByRecursion (AllByRecursion (λ p. p < length ranks)) (index_lists now)
    → AllByRecursion (λ p. p < length ranks) v.items
not-ranked ranks now vs i v lt in_now at so_far within =
    let inside : i < length (index_lists now) = omega (arith, in_now, length-map now (λ (p : ArrayVec ℕ). p.items)) in
    subst (AllByRecursion (λ p. p < length ranks))
    (sym (not-yet (each_at ranks) (index_lists now) i [] inside)
    ∙ ap (λ (ls : List (List ℕ)). get_or ls i []) (sym so_far) ∙ item-of vs i v lt at)
    (All-from_recursion (AllByRecursion (λ p. p < length ranks)) (index_lists now) within i [] inside)

-- and afterwards
pub one-ranked : (ranks : List ℕ) (now vs : List (ArrayVec ℕ)) (i : ℕ) (v r : ArrayVec ℕ) → i < length vs
    → i < length now → v ≡ get_or vs i v → r.items ≡ each_at ranks v.items
    → index_lists vs ≡ map (each_at ranks) (take i (index_lists now)) ++ drop i (index_lists now)
    → index_lists (set vs i r) ≡ map (each_at ranks) (take (i + 1) (index_lists now)) ++ drop (i + 1) (index_lists now)
one-ranked ranks now vs i v r lt in_now at ranked so_far =
    let inside : i < length (index_lists now) = omega (arith, in_now, length-map now (λ (p : ArrayVec ℕ). p.items)) in
    let is = item-of vs i v lt at in
    map-set (λ (p : ArrayVec ℕ). p.items) vs i r ∙ ap (set (index_lists vs) i) (ranked ∙ ap (each_at ranks) (sym is))
    ∙ map_over_more (each_at ranks) (index_lists now) (index_lists vs) i (get_or (index_lists vs) i []) inside so_far
    (sym (get_or_default (index_lists vs) i (get_or (index_lists vs) i []) []
    (omega (arith, lt, length-map vs (λ (p : ArrayVec ℕ). p.items)))))

pub size-ranked : (f : List ℕ → List ℕ) (old new : List (ArrayVec ℕ)) → index_lists new ≡ map f (index_lists old)
    → length new ≡ length old
size-ranked f old new ranked =
    sym (length-map new (λ (p : ArrayVec ℕ). p.items))
    ∙ ap length ranked ∙ length-map (index_lists old) f ∙ length-map old (λ (p : ArrayVec ℕ). p.items)
