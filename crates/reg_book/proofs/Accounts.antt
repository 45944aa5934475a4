-- Finding an account among accounts by rising number.
use Rattle.std.proofs.Common.{◌≡◌, ◌≢◌, ℕ, zero, suc, ◌<◌, ◌≤◌, [], ◌∷◌, length, get_or, Some, None, refl, sym, arith}
use Rattle.std.proofs.Common.{Err, ⊎_elim, tests}
use Rattle.std.proofs.lemmas.Bool.{eq-eqb, ne_eqb, cases_lt}
use Rattle.std.specs.Cmp.{ranked}
use Rattle.std.specs.Ordering.{nat_cmp, ordering_index}
use Rattle.std.specs.declared.cmp.Ordering.TheVariants.{Less, Equal, Greater}
use Rattle.std.specs.List.{HoldsAt}
use Rattle.std.specs.List.Sorted.{IsBinarySearchResult}
use Rattle.reg_facts.proofs.lemmas.Numbers.{ordering-higher, below_of, above_of}
use Rattle.reg_base.proofs.lemmas.RisesFrom.{RisesFrom}
use Rattle.reg_account.specs.Account.{AccountValue}
use Rattle.reg_rules.specs.State.{State, account, numbers}

-- no number is below the lowest
pub low_number : (low : ℕ) (xs : State) → RisesFrom low (numbers xs) → (p : ℕ) (d : AccountValue) → p < length xs
    → low ≤ (get_or xs p d).number
low_number low [] rises p d lt = absurd (omega arith)
low_number low (v ∷ vs) rises zero d lt = rises.0
low_number low (v ∷ vs) rises (suc p) d lt = let h = low_number (suc v.number) vs rises.1 p d (omega arith) in
    omega (arith, rises.0)

-- the account at an index is the account of its number
pub account_at : (low : ℕ) (xs : State) → RisesFrom low (numbers xs) → (p a : ℕ) (d : AccountValue) → p < length xs
    → (get_or xs p d).number ≡ a → account xs a ≡ Some (get_or xs p d)
account_at low [] rises p a d lt e = absurd (omega arith)
account_at low (v ∷ vs) rises zero a d lt e = rw (eq-eqb v.number a e) refl
account_at low (v ∷ vs) rises (suc p) a d lt e =
    let above = low_number (suc v.number) vs rises.1 p d (omega arith) in
    let other : v.number ≢ a = omega (arith, e, above) in
    rw (ne_eqb v.number a other) (account_at (suc v.number) vs rises.1 p a d (omega arith) e)

-- a number that no account has is no account's
pub account_none : (xs : State) (a : ℕ) → ((p : ℕ) (d : AccountValue) → p < length xs → (get_or xs p d).number ≢ a)
    → account xs a ≡ None
account_none [] a other = refl
account_none (v ∷ vs) a other =
    rw (ne_eqb v.number a (other 0 v (omega arith))) (account_none vs a (λ p d lt. other (suc p) d (omega arith)))

-- a later index has a later number
pub ascending : (low : ℕ) (xs : State) → RisesFrom low (numbers xs) → (i j : ℕ) (d : AccountValue) → i ≤ j
    → j < length xs → (get_or xs i d).number ≤ (get_or xs j d).number
ascending low [] rises i j d le lt = absurd (omega arith)
ascending low (v ∷ vs) rises zero zero d le lt = omega arith
ascending low (v ∷ vs) rises zero (suc j) d le lt = let h = low_number (suc v.number) vs rises.1 j d (omega arith) in
    omega arith
ascending low (v ∷ vs) rises (suc i) zero d le lt = absurd (omega arith)
ascending low (v ∷ vs) rises (suc i) (suc j) d le lt =
    ascending (suc v.number) vs rises.1 i j d (omega arith) (omega arith)

-- what a binary search by number says of an account
pub searched_ok : (xs : State) (a p : ℕ) (d : AccountValue) → RisesFrom 0 (numbers xs) → p < length xs
    → HoldsAt (λ y. nat_cmp y.number a ≡ Equal) xs p → account xs a ≡ Some (get_or xs p d)
searched_ok xs a p d rises lt found =
    account_at 0 xs rises p a d lt (ranked (get_or xs p d).number a Equal (sym (found d)))

pub number_found : (xs : State) (a p : ℕ) (d : AccountValue) → HoldsAt (λ y. nat_cmp y.number a ≡ Equal) xs p
    → (get_or xs p d).number ≡ a
number_found xs a p d found = ranked (get_or xs p d).number a Equal (sym (found d))

pub searched_err : (xs : State) (a i : ℕ) → RisesFrom 0 (numbers xs)
    → IsBinarySearchResult (λ y. nat_cmp y.number a) xs (Err i) → account xs a ≡ None
searched_err xs a i rises searched =
    let parted = searched (λ p q d le lt. ordering-higher a (get_or xs p d).number (get_or xs q d).number
    (ascending 0 xs rises p q d le lt)) in
    account_none xs a (λ p d lt e. ⊎_elim
    (λ before. let h = below_of (get_or xs p d).number a (parted.0 p d (omega arith) before) in
    absurd (omega (arith, h, e)))
    (λ after. let h = above_of (get_or xs p d).number a (parted.1 p d after lt) in absurd (omega (arith, h, e)))
    (cases_lt p i))
