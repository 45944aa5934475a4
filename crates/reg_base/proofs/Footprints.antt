-- A footprint has each account once, and only those that the directory has.
use Rattle.std.proofs.Common.{◌≡◌, ℕ, ◌+◌, ◌<◌, ◌≤◌, Bool, true, false, cond, ◌||◌, eqb, List, [], ◌∷◌, ◌++◌, map}
use Rattle.std.proofs.Common.{length, get_or, take, refl, sym, ap, ◌∙◌, arith}
use Rattle.std.specs.Prelude.{filter, not}
use Rattle.std.specs.List.{IsDistinct, AllByRecursion, list_all}
use Rattle.std.proofs.lemmas.Bool.{cond_both, eqb-true, eqb-false, eq-eqb, ne_eqb, not-true, and_parts}
use Rattle.std.proofs.lemmas.List.{append-nil, length-map, length-take, map-append, take_more}
use Rattle.std.specs.Option.{option_to_list}
use Rattle.std.proofs.lemmas.List.Folds.{list_all-append}
use Rattle.std.proofs.lemmas.List.Elements.{All-from_recursion}
use Rattle.reg_facts.proofs.lemmas.Lists.{all-filter, all-kept, distinct-filter}
use Rattle.reg_base.specs.Directory.{DirectoryValue, is_known}
use Rattle.reg_base.specs.Footprint.{each_once, is_among, footprint, all_known, IsSound}
use Rattle.reg_base.specs.declared.act.Act.{Act}
use Rattle.reg_base.specs.declared.shares.Share.{Share}
use Rattle.reg_base.specs.Acts.{first, shares, parties, also_known}

another : (x y : ℕ) → not (eqb y x) ≡ true → eqb x y ≡ false
another x y h = ne_eqb x y (λ same. eqb-false y x (not-true (eqb y x) h) (sym same))

distinct-each_once : (xs : List ℕ) → IsDistinct eqb (each_once xs)
unfolding IsDistinct
distinct-each_once [] = tt
distinct-each_once (x ∷ xs) = (
  all-kept (λ y. eqb x y ≡ false) (λ y. not (eqb y x)) (another x) (each_once xs),
  distinct-filter eqb (λ y. not (eqb y x)) (each_once xs) (distinct-each_once xs),
)

-- no account stands twice in a footprint
pub distinct-footprint : (d : DirectoryValue) (act : Act) → IsDistinct eqb (footprint d act)
unfolding IsDistinct
distinct-footprint d act =
    cond_both (all_known d act) (each_once (parties act)) [] (IsDistinct eqb) (λ _. distinct-each_once (parties act))
    (λ _. tt)

all-each_once : (P : ℕ → Type 0) (xs : List ℕ) → AllByRecursion P xs → AllByRecursion P (each_once xs)
all-each_once P [] all = tt
all-each_once P (x ∷ xs) all = (all.0, all-filter P (λ y. not (eqb y x)) (each_once xs) (all-each_once P xs all.1))

all-passed : (p : ℕ → Bool) (xs : List ℕ) → list_all p xs ≡ true → AllByRecursion (λ x. p x ≡ true) xs
all-passed p [] h = tt
all-passed p (x ∷ xs) h =
    let passed = and_parts (p x) (list_all p xs) h in
    (passed.0, all-passed p xs passed.1)

-- each account that an act touches has to be known, so the directory has it
known-parties : (d : DirectoryValue) (act : Act) → all_known d act ≡ true
    → AllByRecursion (λ a. is_known d a ≡ true) (parties act)
known-parties d act h =
    all-passed (is_known d) (parties act)
    (and_parts (list_all (is_known d) (parties act)) (list_all (is_known d) (option_to_list (also_known act)))
    (sym (list_all-append (is_known d) (parties act) (option_to_list (also_known act))) ∙ h)).0

known-footprint : (d : DirectoryValue) (act : Act) → AllByRecursion (λ a. is_known d a ≡ true) (footprint d act)
known-footprint d act =
    cond_both (all_known d act) (each_once (parties act)) [] (AllByRecursion (λ a. is_known d a ≡ true))
    (λ known. all-each_once (λ a. is_known d a ≡ true) (parties act) (known-parties d act known)) (λ _. tt)

filter_short : {X : Type 0} (p : X → Bool) (xs : List X) → length (filter p xs) ≤ length xs
filter_short p [] = omega arith
filter_short p (x ∷ xs) =
    let shorter = filter_short p xs in
    cond_both (p x) (x ∷ filter p xs) (filter p xs) (λ ys. length ys ≤ length (x ∷ xs)) (λ _. omega arith)
    (λ _. omega arith)

each_once_short : (xs : List ℕ) → length (each_once xs) ≤ length xs
each_once_short [] = omega arith
each_once_short (x ∷ xs) = omega (arith, each_once_short xs, filter_short (λ y. not (eqb y x)) (each_once xs))

few-footprint : (d : DirectoryValue) (act : Act) → length (footprint d act) ≤ 1 + length (shares act)
few-footprint d act =
    cond_both (all_known d act) (each_once (parties act)) [] (λ xs. length xs ≤ 1 + length (shares act))
    (λ _. omega (arith, each_once_short (parties act), length-map (shares act) (λ share. share.to))) (λ _. omega arith)

pub sound-footprint : (d : DirectoryValue) (act : Act) → IsSound d act (footprint d act)
sound-footprint d act = record {
  once = distinct-footprint d act;
  known = All-from_recursion (λ a. is_known d a ≡ true) (footprint d act) (known-footprint d act);
  few = few-footprint d act;
}

-- a list with one number more at its end
abbrev pub with-one : List ℕ → ℕ → List ℕ
with-one xs a = cond (is_among xs a) xs (xs ++ a ∷ [])

filter-append : (p : ℕ → Bool) (xs ys : List ℕ) → filter p (xs ++ ys) ≡ filter p xs ++ filter p ys
filter-append p [] ys = refl
filter-append p (x ∷ xs) ys = go (p x) (filter-append p xs ys) where
  go : (b : Bool) → filter p (xs ++ ys) ≡ filter p xs ++ filter p ys
      → cond b (x ∷ filter p (xs ++ ys)) (filter p (xs ++ ys)) ≡ cond b (x ∷ filter p xs) (filter p xs) ++ filter p ys
  go true more = ap (λ zs. x ∷ zs) more
  go false more = more

-- leaving out another number leaves the number in its place
among-filter : (x a : ℕ) → eqb x a ≡ false → (ys : List ℕ) → is_among (filter (λ y. not (eqb y x)) ys) a ≡ is_among ys a
among-filter x a other [] = refl
among-filter x a other (y ∷ ys) = go (eqb y x) refl (among-filter x a other ys) where
  go : (b : Bool) → eqb y x ≡ b → is_among (filter (λ z. not (eqb z x)) ys) a ≡ is_among ys a
      → is_among (cond (not b) (y ∷ filter (λ z. not (eqb z x)) ys) (filter (λ z. not (eqb z x)) ys)) a
      ≡ (eqb y a || is_among ys a)
  go true same more = more ∙ sym (ap (λ b. b || is_among ys a) (ap (λ n. eqb n a) (eqb-true y x same) ∙ other))
  go false apart more = ap (λ b. eqb y a || b) more

-- each number where it first stands, with one number more at the end
pub each_once-append : (xs : List ℕ) (a : ℕ) → each_once (xs ++ a ∷ []) ≡ with-one (each_once xs) a
each_once-append [] a = refl
each_once-append (x ∷ xs) a = ap (λ ys. x ∷ filter (λ y. not (eqb y x)) ys) (each_once-append xs a)
    ∙ go (eqb x a) refl (is_among (each_once xs) a) refl where
      go : (b : Bool) → eqb x a ≡ b → (m : Bool) → is_among (each_once xs) a ≡ m
          → x ∷ filter (λ y. not (eqb y x)) (cond m (each_once xs) (each_once xs ++ a ∷ []))
          ≡ cond (eqb x a || is_among (filter (λ y. not (eqb y x)) (each_once xs)) a)
          (x ∷ filter (λ y. not (eqb y x)) (each_once xs)) (x ∷ filter (λ y. not (eqb y x)) (each_once xs) ++ a ∷ [])
      go true same true among =
          sym (ap (λ b. cond (b || is_among (filter (λ y. not (eqb y x)) (each_once xs)) a)
          (x ∷ filter (λ y. not (eqb y x)) (each_once xs)) (x ∷ filter (λ y. not (eqb y x)) (each_once xs) ++ a ∷ []))
          same)
      go true same false among =
          ap (λ ys. x ∷ ys) (filter-append (λ y. not (eqb y x)) (each_once xs) (a ∷ [])
          ∙ ap (λ b. filter (λ y. not (eqb y x)) (each_once xs) ++ cond (not b) (a ∷ []) [])
          (eq-eqb a x (sym (eqb-true x a same)))
          ∙ append-nil (filter (λ y. not (eqb y x)) (each_once xs)))
          ∙ sym (ap (λ b. cond (b || is_among (filter (λ y. not (eqb y x)) (each_once xs)) a)
          (x ∷ filter (λ y. not (eqb y x)) (each_once xs)) (x ∷ filter (λ y. not (eqb y x)) (each_once xs) ++ a ∷ []))
          same)
      go false apart true among =
          sym (ap (λ b. cond b (x ∷ filter (λ y. not (eqb y x)) (each_once xs))
          (x ∷ filter (λ y. not (eqb y x)) (each_once xs) ++ a ∷ []))
          (ap (λ b. b || is_among (filter (λ y. not (eqb y x)) (each_once xs)) a) apart
          ∙ among-filter x a apart (each_once xs) ∙ among))
      go false apart false among =
          ap (λ ys. x ∷ ys) (filter-append (λ y. not (eqb y x)) (each_once xs) (a ∷ [])
          ∙ ap (λ b. filter (λ y. not (eqb y x)) (each_once xs) ++ cond (not b) (a ∷ []) [])
          (ne_eqb a x (λ same. eqb-false x a apart (sym same))))
          ∙ sym (ap (λ b. cond b (x ∷ filter (λ y. not (eqb y x)) (each_once xs))
          (x ∷ filter (λ y. not (eqb y x)) (each_once xs) ++ a ∷ []))
          (ap (λ b. b || is_among (filter (λ y. not (eqb y x)) (each_once xs)) a) apart
          ∙ among-filter x a apart (each_once xs) ∙ among))

-- the footprint with one share more
pub one-more : (first : ℕ) (shared : List Share) (i : ℕ) (d : Share) (before now : List ℕ) → i < length shared
    → before ≡ each_once (first ∷ map (λ share. share.to) (take i shared))
    → now ≡ with-one before (get_or shared i d).to
    → now ≡ each_once (first ∷ map (λ share. share.to) (take (i + 1) shared))
one-more first shared i d before now lt is grown =
    grown
    ∙ ap (λ ns. with-one ns (get_or shared i d).to) is
    ∙ sym (each_once-append (first ∷ map (λ share. share.to) (take i shared)) (get_or shared i d).to)
    ∙ ap (λ ns. each_once (first ∷ ns))
    (sym (map-append (λ (share : Share). share.to) (take i shared) (get_or shared i d ∷ []))
    ∙ ap (map (λ share. share.to)) (sym (take_more shared i d lt)))

pub space-left : (first : ℕ) (shared : List Share) (i : ℕ) (before : List ℕ)
    → before ≡ each_once (first ∷ map (λ share. share.to) (take i shared)) → length before ≤ 1 + i
space-left first shared i before is =
    omega (
      arith,
      ap length is,
      each_once_short (first ∷ map (λ share. share.to) (take i shared)),
      length-map (take i shared) (λ share. share.to),
      length-take i shared,
    )
