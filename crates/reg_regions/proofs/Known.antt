-- Accounts that stand in a book are known, also where they were swapped, and so are those of an instruction.
use Rattle.std.proofs.Common.{◌≡◌, ℕ, ◌<◌, ◌&&◌, Bool, true, false, cond, eqb, not, List, [], ◌∷◌, ◌++◌, filter}
use Rattle.std.proofs.Common.{length}
use Rattle.std.proofs.Common.{get_or, refl, sym, ap, subst, ◌∙◌, Vec, Global}
use Rattle.std.specs.Prelude.{All, IsPermutation}
use Rattle.std.specs.List.{AllByRecursion, list_all}
use Rattle.std.specs.Option.{option_map_or, option_to_list}
use Rattle.std.proofs.lemmas.Bool.{eqb-true}
use Rattle.std.proofs.lemmas.List.{map-append}
use Rattle.std.proofs.lemmas.List.Elements.{All-nil, All-cons, All-head, All-tail, Contains-get_or}
use Rattle.std.proofs.lemmas.List.Folds.{list_all-append}
use Rattle.std.proofs.lemmas.List.Sorted.{All-permutation, IsPermutation-map}
use Rattle.reg_facts.proofs.lemmas.Lists.{list_all-option}
use Rattle.reg_base.specs.declared.act.Act.{Act}
use Rattle.reg_base.specs.Acts.{parties, also_known}
use Rattle.reg_base.specs.Directory.{DirectoryValue, is_known}
use Rattle.reg_base.specs.Footprint.{footprint, all_known, each_once}
use Rattle.reg_base.proofs.lemmas.Among.{is_among-contained}
use Rattle.reg_account.specs.Account.{AccountValue}
use Rattle.reg_rules.specs.State.{State, numbers}
use Rattle.reg_book.specs.Book.{directory_of}
use Rattle.reg_book.specs.Indexes.{StandAt, each_at}
use Rattle.reg_book.proofs.lemmas.Listings.{known-among}
use Rattle.reg_regions.specs.Homes.{AreKnown}
use Rattle.reg_regions.specs.Lists.{joined_lists}

-- what holds of all elements of two lists holds of those of each
pub all-front : {X : Type 0} (P : X → Type 0) (xs ys : List X) → All P (xs ++ ys) → All P xs
all-front P [] ys all = All-nil P
all-front P (x ∷ xs) ys all =
    All-cons P x xs (All-head P x (xs ++ ys) all) (all-front P xs ys (All-tail P x (xs ++ ys) all))

pub all-behind : {X : Type 0} (P : X → Type 0) (xs ys : List X) → All P (xs ++ ys) → All P ys
all-behind P [] ys all = all
all-behind P (x ∷ xs) ys all = all-behind P xs ys (All-tail P x (xs ++ ys) all)

-- and so of those of several
pub all-each : {X : Type 0} (P : X → Type 0) (lists : List (Vec X Global)) → All P (joined_lists lists)
    → All (λ l. All P l.items) lists
all-each P [] all = All-nil (λ l. All P l.items)
all-each P (l ∷ lists) all =
    All-cons (λ v. All P v.items) l lists (all-front P l.items (joined_lists lists) all)
    (all-each P lists (all-behind P l.items (joined_lists lists) all))

-- the accounts of a book are in its directory, in whatever order they stand
pub known-swapped : (old new : State) → IsPermutation old new → AreKnown (directory_of old) (numbers new)
known-swapped old new same =
    All-permutation (λ a. is_known (directory_of old) a ≡ true) (numbers old) (numbers new)
    (IsPermutation-map (λ (v : AccountValue). v.number) old new same)
    (λ k d lt. known-among old (get_or (numbers old) k d)
    ∙ is_among-contained (numbers old) (get_or (numbers old) k d) (Contains-get_or (numbers old) k d lt))

-- the same of each of several lists
pub known-each : (d : DirectoryValue) (lists : List (Vec AccountValue Global))
    → AreKnown d (numbers (joined_lists lists)) → All (λ l. AreKnown d (numbers l.items)) lists
known-each d [] all = All-nil (λ l. AreKnown d (numbers l.items))
known-each d (l ∷ lists) all =
    let known : ℕ → Type 0 = λ a. is_known d a ≡ true in
    let both = subst (All known) (map-append (λ (v : AccountValue). v.number) l.items (joined_lists lists)) all in
    All-cons (λ v. AreKnown d (numbers v.items)) l lists
    (all-front known (numbers l.items) (numbers (joined_lists lists)) both)
    (known-each d lists (all-behind known (numbers l.items) (numbers (joined_lists lists)) both))

-- ---- the accounts of an instruction

all-filter : (p : ℕ → Bool) (x : ℕ) → p x ≡ true → (ys : List ℕ)
    → list_all p (filter (λ y. not (eqb y x)) ys) ≡ list_all p ys
all-filter p x passes [] = refl
all-filter p x passes (y ∷ ys) = by (eqb y x) refl (all-filter p x passes ys)
  where
    by : (b : Bool) → eqb y x ≡ b → list_all p (filter (λ z. not (eqb z x)) ys) ≡ list_all p ys
        → list_all p (cond (not b) (y ∷ filter (λ z. not (eqb z x)) ys) (filter (λ z. not (eqb z x)) ys))
        ≡ (p y && list_all p ys)
    by true same more = more ∙ sym (ap (λ b. b && list_all p ys) (ap p (eqb-true y x same) ∙ passes))
    by false other more = ap (λ b. p y && b) more

all-once : (p : ℕ → Bool) (xs : List ℕ) → list_all p (each_once xs) ≡ list_all p xs
all-once p [] = refl
all-once p (x ∷ xs) = by (p x) refl (all-once p xs)
  where
    by : (b : Bool) → p x ≡ b → list_all p (each_once xs) ≡ list_all p xs
        → (b && list_all p (filter (λ y. not (eqb y x)) (each_once xs))) ≡ (b && list_all p xs)
    by true passes more = all-filter p x passes (each_once xs) ∙ more
    by false fails more = refl

-- what stands at indexes among known accounts is known
known-there : (d : DirectoryValue) (ns indexes : List ℕ) → AreKnown d ns → AllByRecursion (λ p. p < length ns) indexes
    → list_all (is_known d) (each_at ns indexes) ≡ true
known-there d ns [] known within = refl
known-there d ns (i ∷ indexes) known within =
    ap (λ b. b && list_all (is_known d) (each_at ns indexes)) (known i 0 within.0)
    ∙ known-there d ns indexes known within.1

-- where all parties of an act stand among known accounts, and the other account that it asks for is known, its
-- footprint stands
pub footprint-there : (d : DirectoryValue) (act : Act) (ns indexes : List ℕ) → AreKnown d ns
    → option_map_or (is_known d) (also_known act) true ≡ true → StandAt ns indexes (each_once (parties act))
    → StandAt ns indexes (footprint d act)
footprint-there d act ns indexes known other there =
    let each : list_all (is_known d) (parties act) ≡ true =
    sym (all-once (is_known d) (parties act)) ∙ ap (list_all (is_known d)) (sym there.are_there)
    ∙ known-there d ns indexes known there.within in
    let all : all_known d act ≡ true =
    list_all-append (is_known d) (parties act) (option_to_list (also_known act))
    ∙ ap (λ b. b && list_all (is_known d) (option_to_list (also_known act))) each
    ∙ list_all-option (is_known d) (also_known act) ∙ other in
    subst (StandAt ns indexes) (sym (ap (λ b. cond b (each_once (parties act)) []) all)) there
