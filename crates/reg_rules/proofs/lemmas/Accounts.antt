-- Accounts by their numbers: each number leads to its account where it stands once; accounts in another order, after a
-- change that keeps each number, and in two lists.
use Rattle.std.proofs.Common.{◌≡◌, ℕ, zero, suc, ◌⊎◌, inl, inr, Bool, true, false, cond, ◌||◌, eqb, [], ◌∷◌, ◌++◌}
use Rattle.std.proofs.Common.{map, length, get_or, Option, Some, None, refl, sym, ap, ◌∙◌, arith}
use Rattle.std.specs.Prelude.{is_some, Contains, IsPermutation}
use Rattle.std.specs.Option.{option_map}
use Rattle.std.specs.List.{IsDistinct, AllByRecursion}
use Rattle.std.specs.Cmp.{nat_eq_equiv}
use Rattle.std.proofs.lemmas.Bool.{cond_both, eqb-true, eq-eqb}
use Rattle.std.proofs.lemmas.Option.{same_Some, none-some}
use Rattle.std.proofs.lemmas.List.{get_or-map}
use Rattle.std.proofs.lemmas.List.Sorted.{Contains-permutation, IsPermutation-map, IsPermutation-sym}
use Rattle.std.proofs.lemmas.Map.Keys.{IsDistinct-IsPermutation, IsDistinct-tail, apart_from_distinct}
use Rattle.reg_base.specs.Footprint.{is_among}
use Rattle.reg_account.specs.Account.{AccountValue}
use Rattle.reg_rules.specs.State.{State, numbers, account}

pub length-numbers : (xs : State) → length (numbers xs) ≡ length xs
length-numbers [] = refl
length-numbers (v ∷ vs) = ap suc (length-numbers vs)

-- the account that a number leads to has it
pub account-number : (s : State) (a : ℕ) (v : AccountValue) → account s a ≡ Some v → v.number ≡ a
account-number [] a v e = absurd (none-some v e)
account-number (x ∷ xs) a v e =
    let more = account-number xs a v in
    cond_both (eqb x.number a) (Some x) (account xs a) (λ o. o ≡ Some v → v.number ≡ a)
    (λ same found. ap (λ (w : AccountValue). w.number) (sym (same_Some x v found)) ∙ eqb-true x.number a same)
    (λ _ found. more found) e

-- an account put before a list does not change what the other numbers find
found_behind : (x : AccountValue) (xs ys : State) → AllByRecursion (λ n. eqb x.number n ≡ false) (numbers ys)
    → AllByRecursion (λ v. account xs v.number ≡ Some v) ys
    → AllByRecursion (λ v. account (x ∷ xs) v.number ≡ Some v) ys
found_behind x xs [] others found = tt
found_behind x xs (y ∷ ys) others found =
    (ap (λ b. cond b (Some x) (account xs y.number)) others.0 ∙ found.0, found_behind x xs ys others.1 found.1)

-- each account is found by its number
pub found-by_number : (s : State) → IsDistinct eqb (numbers s) → AllByRecursion (λ v. account s v.number ≡ Some v) s
unfolding IsDistinct
found-by_number [] d = tt
found-by_number (x ∷ xs) d = (
  ap (λ b. cond b (Some x) (account xs x.number)) (eq-eqb x.number x.number refl),
  found_behind x xs xs d.0 (found-by_number xs d.1),
)

-- a change that keeps each number is a change of what the numbers lead to
pub account-map : (f : AccountValue → AccountValue) → ((v : AccountValue) → (f v).number ≡ v.number)
    → (s : State) (a : ℕ) → account (map f s) a ≡ option_map f (account s a)
account-map f keeps [] a = refl
account-map f keeps (x ∷ xs) a =
    ap (λ n. cond (eqb n a) (Some (f x)) (account (map f xs) a)) (keeps x)
    ∙ go (eqb x.number a) (account-map f keeps xs a) where
      go : (b : Bool) → account (map f xs) a ≡ option_map f (account xs a)
          → cond b (Some (f x)) (account (map f xs) a) ≡ option_map f (cond b (Some x) (account xs a))
      go true more = refl
      go false more = more

some_by : (b : Bool) (w : AccountValue) (o : Option AccountValue) → is_some (cond b (Some w) o) ≡ (b || is_some o)
some_by true w o = refl
some_by false w o = refl

-- an account is found exactly where its number stands in the list
pub found-among : (xs : State) (a : ℕ) → is_some (account xs a) ≡ is_among (numbers xs) a
found-among [] a = refl
found-among (w ∷ ws) a = some_by (eqb w.number a) w (account ws a) ∙ ap (λ b. eqb w.number a || b) (found-among ws a)

found_by : (b : Bool) (w : AccountValue) (ws : State) (a : ℕ) (v : AccountValue) → eqb w.number a ≡ b
    → (account ws a ≡ Some v → Contains ws v × (v.number ≡ a)) → cond b (Some w) (account ws a) ≡ Some v
    → Contains (w ∷ ws) v × (v.number ≡ a)
found_by true w ws a v same later found =
    let is : w ≡ v = cc in
    ((0, omega arith, is), ap (λ (o : AccountValue). o.number) (sym is) ∙ eqb-true w.number a same)
found_by false w ws a v other later found =
    let (there, number) = later found in
    let (k, lt, is) = there in
    ((suc k, omega arith, is), number)

-- an account that is found is among the accounts, and has the number
pub found_in : (xs : State) (a : ℕ) (v : AccountValue) → account xs a ≡ Some v → Contains xs v × (v.number ≡ a)
found_in [] a v e = absurd cc
found_in (w ∷ ws) a v e = found_by (eqb w.number a) w ws a v refl (found_in ws a v) e

-- an account with a number of its own is the account of that number
pub is_found : (xs : State) (a : ℕ) (v : AccountValue) → IsDistinct eqb (numbers xs) → Contains xs v → v.number ≡ a
    → account xs a ≡ Some v
is_found [] a v distinct (k, lt, is) e = absurd (omega arith)
is_found (w ∷ ws) a v distinct (zero, lt, is) e =
    let same : eqb w.number a ≡ true = eq-eqb w.number a (ap (λ (o : AccountValue). o.number) is ∙ e) in
    rw same (ap (λ (o : AccountValue). Some o) is)
is_found (w ∷ ws) a v distinct (suc k, lt, is) e =
    let number_k : get_or (numbers ws) k a ≡ a = get_or-map (λ (o : AccountValue). o.number) ws k v a (omega arith)
    ∙ ap (λ (o : AccountValue). o.number) is ∙ e in
    let apart : eqb w.number (get_or (numbers ws) k a)
    ≡ false = apart_from_distinct eqb (numbers (w ∷ ws)) 0 (suc k) a distinct (omega arith)
    (omega (arith, length-numbers ws)) in
    let other : eqb w.number a ≡ false = ap (λ n. eqb w.number n) (sym number_k) ∙ apart in
    rw other (is_found ws a v (IsDistinct-tail eqb w.number (numbers ws) distinct) (k, omega arith, is) e)

none_or_some : (o : Option AccountValue) → (o ≡ None) ⊎ ((v : AccountValue) × (o ≡ Some v))
none_or_some None = inl refl
none_or_some (Some v) = inr (v, refl)

-- numbers in another order differ as before
pub distinct-permutation : (xs ys : State) → IsDistinct eqb (numbers xs) → IsPermutation xs ys
    → IsDistinct eqb (numbers ys)
distinct-permutation xs ys distinct same =
    IsDistinct-IsPermutation eqb nat_eq_equiv.symm (numbers xs) (numbers ys)
    (IsPermutation-map (λ (o : AccountValue). o.number) xs ys same) distinct

-- accounts in another order are found as before
pub account-permutation : (xs ys : State) → IsDistinct eqb (numbers xs) → IsPermutation xs ys → (a : ℕ)
    → account xs a ≡ account ys a
account-permutation xs ys distinct same a =
    let distinct_ys = distinct-permutation xs ys distinct same in
    elim (none_or_some (account xs a)) [
      | inr found ↦
          let (there, number) = found_in xs a found.0 found.1 in
          found.1 ∙ sym (is_found ys a found.0 distinct_ys (Contains-permutation xs ys found.0 same there) number)
      | inl none ↦ elim (none_or_some (account ys a)) [
        | inl none_there ↦ none ∙ sym none_there
        | inr found ↦
            let (there, number) = found_in ys a found.0 found.1 in
            is_found xs a found.0 distinct (Contains-permutation ys xs found.0 (IsPermutation-sym xs ys same) there)
            number ∙ sym found.1
      ]
    ]

-- an account is found in the first of two lists if its number stands there, and else in the other
pub account-append_left : (xs ys : State) (a : ℕ) → is_among (numbers xs) a ≡ true → account (xs ++ ys) a ≡ account xs a
account-append_left [] ys a among = absurd cc
account-append_left (x ∷ xs) ys a among = by (eqb x.number a) among (account-append_left xs ys a)
  where
    by : (b : Bool) → (b || is_among (numbers xs) a) ≡ true
        → (is_among (numbers xs) a ≡ true → account (xs ++ ys) a ≡ account xs a)
        → cond b (Some x) (account (xs ++ ys) a) ≡ cond b (Some x) (account xs a)
    by true h more = refl
    by false h more = more h
