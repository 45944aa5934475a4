-- The accounts of an instruction are looked up once each: whether all are known, and where they stand.
use Rattle.std.proofs.Common.{◌≡◌, ℕ, ◌+◌, ◌<◌, ◌&&◌, Bool, true, false, cond, eqb, not, List, [], ◌∷◌, filter, length}
use Rattle.std.proofs.Common.{get_or, take, Option, Some, None, refl, sym, ap, ◌∙◌, arith}
use Rattle.std.specs.Prelude.{option_map, is_some}
use Rattle.std.specs.Option.{option_map_or, option_to_list}
use Rattle.std.specs.List.{list_all}
use Rattle.std.proofs.lemmas.Bool.{eqb-true}
use Rattle.std.proofs.lemmas.List.{get_or_default}
use Rattle.std.proofs.lemmas.List.Folds.{list_all-append, list_all_at, list_all_more}
use Rattle.reg_facts.proofs.lemmas.Lists.{list_all-option}
use Rattle.reg_base.specs.declared.act.Act.{Act}
use Rattle.reg_base.specs.Acts.{parties, also_known}
use Rattle.reg_base.specs.Directory.{DirectoryValue, is_known}
use Rattle.reg_base.specs.Footprint.{footprint, all_known, each_once}
use Rattle.reg_base.proofs.lemmas.Among.{is_among-contained}
use Rattle.reg_account.specs.Account.{AccountValue}
use Rattle.reg_rules.specs.State.{State, account, numbers}
use Rattle.reg_rules.proofs.lemmas.Accounts.{length-numbers}
use Rattle.reg_book.specs.Book.{directory_of}
use Rattle.reg_book.proofs.lemmas.Listings.{listing, get-directory_of, known-among}
use Rattle.reg_book.proofs.Standing.{StandsAt}

-- an account that stands somewhere is known, and one that is not there is not
pub known-there : (s : State) (p a : ℕ) → StandsAt s p a → is_known (directory_of s) a ≡ true
known-there s p a there =
    let within : p < length (numbers s) = omega (arith, there.within, length-numbers s) in
    known-among s a ∙ is_among-contained (numbers s) a (
      p,
      within,
      get_or_default (numbers s) p a 0 within
          ∙ there.has_number,
    )

pub unknown-absent : (s : State) (a : ℕ) → account s a ≡ None → is_known (directory_of s) a ≡ false
unknown-absent s a none =
    ap is_some (get-directory_of s a ∙ ap (λ (o : Option AccountValue). option_map listing o) none)

-- one number more is known
pub known-more : (s : State) (wanted : List ℕ) (j a p : ℕ) → j < length wanted → a ≡ get_or wanted j a → StandsAt s p a
    → list_all (is_known (directory_of s)) (take j wanted) ≡ true
    → list_all (is_known (directory_of s)) (take (j + 1) wanted) ≡ true
known-more s wanted j a p lt at there so_far =
    list_all_more (is_known (directory_of s)) wanted j a lt
    ∙ ap (λ b. b && is_known (directory_of s) (get_or wanted j a)) so_far
    ∙ ap (is_known (directory_of s)) (sym at) ∙ known-there s p a there

-- one that is not there is enough
pub unknown-one : (s : State) (wanted : List ℕ) (j a : ℕ) → j < length wanted → a ≡ get_or wanted j a
    → account s a ≡ None → list_all (is_known (directory_of s)) wanted ≡ false
unknown-one s wanted j a lt at none =
    list_all_at (is_known (directory_of s)) wanted j a lt (ap (is_known (directory_of s)) (sym at)
    ∙ unknown-absent s a none)

all-filter : (p : ℕ → Bool) (x : ℕ) → p x ≡ true → (ys : List ℕ) → list_all p (filter (λ y. not (eqb y x)) ys)
    ≡ list_all p ys
all-filter p x passes [] = refl
all-filter p x passes (y ∷ ys) = by (eqb y x) refl (all-filter p x passes ys)
  where
    by : (b : Bool) → eqb y x ≡ b → list_all p (filter (λ z. not (eqb z x)) ys) ≡ list_all p ys
        → list_all p (cond (not b) (y ∷ filter (λ z. not (eqb z x)) ys) (filter (λ z. not (eqb z x)) ys))
        ≡ (p y && list_all p ys)
    by true same more = more ∙ sym (ap (λ b. b && list_all p ys) (ap p (eqb-true y x same) ∙ passes))
    by false other more = ap (λ b. p y && b) more

-- all numbers of a list pass a test if each of them passes once
all-each_once : (p : ℕ → Bool) (xs : List ℕ) → list_all p (each_once xs) ≡ list_all p xs
all-each_once p [] = refl
all-each_once p (x ∷ xs) = by (p x) refl (all-each_once p xs)
  where
    by : (b : Bool) → p x ≡ b → list_all p (each_once xs) ≡ list_all p xs
        → (b && list_all p (filter (λ y. not (eqb y x)) (each_once xs))) ≡ (b && list_all p xs)
    by true passes more = all-filter p x passes (each_once xs) ∙ more
    by false fails more = refl

-- a footprint is all parties if they are all known, and empty if one is not
-- all that must be known are the parties, and the other account if there is one
pub known-in_two : (d : DirectoryValue) (act : Act)
    → all_known d act ≡ (list_all (is_known d) (each_once (parties act))
    && option_map_or (is_known d) (also_known act) true)
known-in_two d act =
    list_all-append (is_known d) (parties act) (option_to_list (also_known act))
    ∙ ap (λ b. b && list_all (is_known d) (option_to_list (also_known act)))
    (sym (all-each_once (is_known d) (parties act)))
    ∙ ap (λ b. list_all (is_known d) (each_once (parties act)) && b) (list_all-option (is_known d) (also_known act))

pub footprint-known : (d : DirectoryValue) (act : Act) → option_map_or (is_known d) (also_known act) true ≡ true
    → list_all (is_known d) (each_once (parties act)) ≡ true → each_once (parties act) ≡ footprint d act
footprint-known d act other known =
    sym (ap (λ b. cond b (each_once (parties act)) []) (known-in_two d act
    ∙ ap (λ b. b && option_map_or (is_known d) (also_known act) true) known ∙ other))

pub footprint-unknown : (d : DirectoryValue) (act : Act) → list_all (is_known d) (each_once (parties act)) ≡ false
    → [] ≡ footprint d act
footprint-unknown d act unknown =
    sym (ap (λ b. cond b (each_once (parties act)) []) (known-in_two d act
    ∙ ap (λ b. b && option_map_or (is_known d) (also_known act) true) unknown))
