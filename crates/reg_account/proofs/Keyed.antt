-- Lists that rise by a number of their items: the item with a number, a search by it, and an item put in its place.
use Rattle.std.proofs.Common.{◌≡◌, ◌≢◌, ℕ, zero, suc, ◌+◌, ◌<◌, ◌≤◌, Bool, true, false, cond, eqb, ltb, List, [], ◌∷◌}
use Rattle.std.proofs.Common.{◌++◌, map, filter, length, get_or, set, take, drop, Some, None, Err, refl, sym, ap, subst}
use Rattle.std.proofs.Common.{◌∙◌, inl, inr, arith, add-one}
use Rattle.std.specs.Prelude.{find, not, Option}
use Rattle.std.specs.List.{insert, remove, HoldsAt, AllByRecursion}
use Rattle.std.specs.Cmp.{ranked}
use Rattle.std.specs.Ordering.{nat_cmp}
use Rattle.std.specs.declared.cmp.Ordering.TheVariants.{Equal}
use Rattle.std.specs.List.Sorted.{IsBinarySearchResult}
use Rattle.std.proofs.lemmas.Bool.{eq-eqb, eqb-true, eqb-false, ne_eqb, cases_lt, lt-ltb, ltb-true, le-ltb}
use Rattle.std.proofs.lemmas.List.{length-append}
use Rattle.std.proofs.lemmas.Option.{none-some}
use Rattle.reg_facts.proofs.lemmas.Numbers.{ordering-higher, below_of, above_of}
use Rattle.reg_base.specs.Rising.{IsRising}
use Rattle.reg_base.proofs.lemmas.RisesFrom.{RisesFrom, rises_from}

-- a rising list, both ways
pub from_zero : (xs : List ℕ) → IsRising xs → RisesFrom 0 xs
from_zero xs rising = rises_from 0 xs rising (λ some. omega arith)

first_low : (low : ℕ) (xs : List ℕ) → RisesFrom low xs → 0 < length xs → low ≤ get_or xs 0 0
first_low low [] rises some = absurd (omega arith)
first_low low (x ∷ xs) rises some = rises.0

pub is_rising : (low : ℕ) (xs : List ℕ) → RisesFrom low xs → IsRising xs
is_rising low [] rises k lt = absurd (omega arith)
is_rising low (x ∷ xs) rises zero lt = let h = first_low (suc x) xs rises.1 (omega arith) in omega (arith, h)
is_rising low (x ∷ xs) rises (suc k) lt =
    rw add-one (let h = is_rising (suc x) xs rises.1 k (omega arith) in rw add-one at h)

module _ {X : Type 0} (key : X → ℕ) where
  -- no number is below the lowest
  pub low_key : (low : ℕ) (xs : List X) → RisesFrom low (map key xs) → (p : ℕ) (d : X) → p < length xs
      → low ≤ key (get_or xs p d)
  low_key low [] rises p d lt = absurd (omega arith)
  low_key low (x ∷ xs) rises zero d lt = rises.0
  low_key low (x ∷ xs) rises (suc p) d lt = let h = low_key (suc (key x)) xs rises.1 p d (omega arith) in
      omega (arith, rises.0)

  -- the item at an index is the item with its number
  pub item_at : (low : ℕ) (xs : List X) → RisesFrom low (map key xs) → (p n : ℕ) (d : X) → p < length xs
      → key (get_or xs p d) ≡ n → find (λ x. eqb (key x) n) xs ≡ Some (get_or xs p d)
  item_at low [] rises p n d lt e = absurd (omega arith)
  item_at low (x ∷ xs) rises zero n d lt e =
      ap (λ b. cond b (Some x) (find (λ y. eqb (key y) n) xs)) (eq-eqb (key x) n e)
  item_at low (x ∷ xs) rises (suc p) n d lt e =
      let above = low_key (suc (key x)) xs rises.1 p d (omega arith) in
      let other : key x ≢ n = omega (arith, e, above) in
      ap (λ b. cond b (Some x) (find (λ y. eqb (key y) n) xs)) (ne_eqb (key x) n other)
      ∙ item_at (suc (key x)) xs rises.1 p n d (omega arith) e

  no_item : (xs : List X) (n : ℕ) → ((p : ℕ) (d : X) → p < length xs → key (get_or xs p d) ≢ n)
      → find (λ x. eqb (key x) n) xs ≡ None
  no_item [] n other = refl
  no_item (x ∷ xs) n other =
      ap (λ b. cond b (Some x) (find (λ y. eqb (key y) n) xs)) (ne_eqb (key x) n (other 0 x (omega arith)))
      ∙ no_item xs n (λ p d lt. other (suc p) d (omega arith))

  ascending : (low : ℕ) (xs : List X) → RisesFrom low (map key xs) → (i j : ℕ) (d : X) → i ≤ j → j < length xs
      → key (get_or xs i d) ≤ key (get_or xs j d)
  ascending low [] rises i j d le lt = absurd (omega arith)
  ascending low (x ∷ xs) rises zero zero d le lt = omega arith
  ascending low (x ∷ xs) rises zero (suc j) d le lt = let h = low_key (suc (key x)) xs rises.1 j d (omega arith) in
      omega arith
  ascending low (x ∷ xs) rises (suc i) zero d le lt = absurd (omega arith)
  ascending low (x ∷ xs) rises (suc i) (suc j) d le lt =
      ascending (suc (key x)) xs rises.1 i j d (omega arith) (omega arith)

  -- what a binary search by number says
  pub number_found : (xs : List X) (n p : ℕ) (d : X) → HoldsAt (λ y. nat_cmp (key y) n ≡ Equal) xs p
      → key (get_or xs p d) ≡ n
  number_found xs n p d found = ranked (key (get_or xs p d)) n Equal (sym (found d))

  parted : (xs : List X) (n i : ℕ) → RisesFrom 0 (map key xs) → IsBinarySearchResult (λ y. nat_cmp (key y) n) xs (Err i)
      → ((p : ℕ) (d : X) → p < i → key (get_or xs p d) < n)
      × ((p : ℕ) (d : X) → i ≤ p → p < length xs → n < key (get_or xs p d))
  parted xs n i rises searched =
      let by = searched (λ p q d le lt. ordering-higher n (key (get_or xs p d)) (key (get_or xs q d))
      (ascending 0 xs rises p q d le lt)) in (
        (λ p d lt. below_of (key (get_or xs p d)) n (by.0 p d (omega arith) lt)),
        (λ p d le lt. above_of (key (get_or xs p d)) n (by.1 p d le lt)),
      )

  pub none_found : (xs : List X) (n i : ℕ) → RisesFrom 0 (map key xs)
      → IsBinarySearchResult (λ y. nat_cmp (key y) n) xs (Err i) → find (λ x. eqb (key x) n) xs ≡ None
  none_found xs n i rises searched =
      let by = parted xs n i rises searched in
      no_item xs n (λ p d lt e. elim (cases_lt p i) [
        | inl before ↦ let h = by.0 p d before in absurd (omega (arith, h, e))
        | inr after ↦ let h = by.1 p d after lt in absurd (omega (arith, h, e))
      ])

  -- the items, with this one in place of one with the same number
  abbrev pub put : X → List X → List X
  put new xs = filter (λ x. ltb (key x) (key new)) xs ++ new ∷ filter (λ x. ltb (key new) (key x)) xs

  put_later : (new x : X) (xs : List X) → key x < key new → put new (x ∷ xs) ≡ x ∷ put new xs
  put_later new x xs lt =
      let first : filter (λ y. ltb (key y) (key new)) (x ∷ xs) ≡ x ∷ filter (λ y. ltb (key y) (key new)) xs
      = ap (λ b. cond b (x ∷ filter (λ y. ltb (key y) (key new)) xs) (filter (λ y. ltb (key y) (key new)) xs))
      (lt-ltb (key x) (key new) lt) in
      let last : filter (λ y. ltb (key new) (key y)) (x ∷ xs) ≡ filter (λ y. ltb (key new) (key y)) xs
      = ap (λ b. cond b (x ∷ filter (λ y. ltb (key new) (key y)) xs) (filter (λ y. ltb (key new) (key y)) xs))
      (le-ltb (key new) (key x) (omega arith)) in
      ap (λ ys. ys ++ new ∷ filter (λ y. ltb (key new) (key y)) (x ∷ xs)) first
      ∙ ap (λ ys. x ∷ filter (λ y. ltb (key y) (key new)) xs ++ new ∷ ys) last

  none_below : (n low : ℕ) (xs : List X) → RisesFrom low (map key xs) → n ≤ low → filter (λ y. ltb (key y) n) xs ≡ []
  none_below n low [] rises le = refl
  none_below n low (x ∷ xs) rises le =
      ap (λ b. cond b (x ∷ filter (λ y. ltb (key y) n) xs) (filter (λ y. ltb (key y) n) xs))
      (le-ltb (key x) n (omega (arith, rises.0)))
      ∙ none_below n (suc (key x)) xs rises.1 (omega (arith, rises.0))

  all_above : (n low : ℕ) (xs : List X) → RisesFrom low (map key xs) → n < low → filter (λ y. ltb n (key y)) xs ≡ xs
  all_above n low [] rises lt = refl
  all_above n low (x ∷ xs) rises lt =
      ap (λ b. cond b (x ∷ filter (λ y. ltb n (key y)) xs) (filter (λ y. ltb n (key y)) xs))
      (lt-ltb n (key x) (omega (arith, rises.0)))
      ∙ ap (λ ys. x ∷ ys) (all_above n (suc (key x)) xs rises.1 (omega (arith, rises.0)))

  put_first : (new : X) (low : ℕ) (xs : List X) → RisesFrom low (map key xs) → key new < low → put new xs ≡ new ∷ xs
  put_first new low xs rises lt =
      ap (λ ys. ys ++ new ∷ filter (λ y. ltb (key new) (key y)) xs) (none_below (key new) low xs rises (omega arith))
      ∙ ap (λ ys. new ∷ ys) (all_above (key new) low xs rises lt)

  put_here : (new x : X) (xs : List X) → RisesFrom (suc (key x)) (map key xs) → key x ≡ key new
      → put new (x ∷ xs) ≡ new ∷ xs
  put_here new x xs rises e =
      let first : filter (λ y. ltb (key y) (key new)) (x ∷ xs) ≡ filter (λ y. ltb (key y) (key new)) xs
      = ap (λ b. cond b (x ∷ filter (λ y. ltb (key y) (key new)) xs) (filter (λ y. ltb (key y) (key new)) xs))
      (le-ltb (key x) (key new) (omega (arith, e))) in
      let last : filter (λ y. ltb (key new) (key y)) (x ∷ xs) ≡ filter (λ y. ltb (key new) (key y)) xs
      = ap (λ b. cond b (x ∷ filter (λ y. ltb (key new) (key y)) xs) (filter (λ y. ltb (key new) (key y)) xs))
      (le-ltb (key new) (key x) (omega (arith, e))) in
      ap (λ ys. ys ++ new ∷ filter (λ y. ltb (key new) (key y)) (x ∷ xs)) first
      ∙ ap (λ ys. filter (λ y. ltb (key y) (key new)) xs ++ new ∷ ys) last
      ∙ put_first new (suc (key x)) xs rises (omega (arith, e))

  -- where a search found an item, it is replaced
  pub put_found : (low : ℕ) (xs : List X) → RisesFrom low (map key xs) → (p : ℕ) (new d : X) → p < length xs
      → key (get_or xs p d) ≡ key new → set xs p new ≡ put new xs
  put_found low [] rises p new d lt e = absurd (omega arith)
  put_found low (x ∷ xs) rises zero new d lt e = sym (put_here new x xs rises.1 e)
  put_found low (x ∷ xs) rises (suc p) new d lt e =
      let above = low_key (suc (key x)) xs rises.1 p d (omega arith) in
      ap (λ ys. x ∷ ys) (put_found (suc (key x)) xs rises.1 p new d (omega arith) e)
      ∙ sym (put_later new x xs (omega (arith, above, e)))

  -- where it found none, the item is inserted
  inserted : (low : ℕ) (xs : List X) → RisesFrom low (map key xs) → (i : ℕ) (new : X) → i ≤ length xs
      → ((p : ℕ) (d : X) → p < i → key (get_or xs p d) < key new)
      → ((p : ℕ) (d : X) → i ≤ p → p < length xs → key new < key (get_or xs p d))
      → take i xs ++ new ∷ drop i xs ≡ put new xs
  inserted low [] rises zero new le before after = refl
  inserted low [] rises (suc i) new le before after = absurd (omega arith)
  inserted low (x ∷ xs) rises zero new le before after =
      sym (put_first new (key x) (x ∷ xs) (omega arith, rises.1) (after 0 x (omega arith) (omega arith)))
  inserted low (x ∷ xs) rises (suc i) new le before after =
      ap (λ ys. x ∷ ys) (inserted (suc (key x)) xs rises.1 i new (omega arith)
      (λ p d lt. before (suc p) d (omega arith)) (λ p d le' lt. after (suc p) d (omega arith) (omega arith)))
      ∙ sym (put_later new x xs (before 0 x (omega arith)))

  pub put_absent : (xs : List X) → RisesFrom 0 (map key xs) → (i : ℕ) (new : X) → i ≤ length xs
      → IsBinarySearchResult (λ y. nat_cmp (key y) (key new)) xs (Err i) → insert xs i new ≡ put new xs
  put_absent xs rises i new le searched =
      let by = parted xs (key new) i rises searched in
      inserted 0 xs rises i new le by.0 by.1

  -- what is put keeps the list rising
  rises_put : (low : ℕ) (xs : List X) (new : X) → RisesFrom low (map key xs) → low ≤ key new
      → RisesFrom low (map key (put new xs))
  rises_put low [] new rises le = (le, tt)
  rises_put low (x ∷ xs) new rises le = elim (cases_lt (key x) (key new)) [
    | inl later ↦ subst (λ ys. RisesFrom low (map key ys)) (sym (put_later new x xs later)) (
      rises.0,
      rises_put (suc (key x)) xs new rises.1 (omega arith),
    )
    | inr not_later ↦ elim (cases_lt (key new) (key x)) [
      | inl before ↦ subst (λ ys. RisesFrom low (map key ys))
          (sym (put_first new (key x) (x ∷ xs) (omega arith, rises.1) before)) (le, (before, rises.1))
      | inr not_before ↦
          let e : key x ≡ key new = omega arith in
          subst (λ ys. RisesFrom low (map key ys)) (sym (put_here new x xs rises.1 e))
          (le, subst (λ k. RisesFrom (suc k) (map key xs)) e rises.1)
    ]
  ]

  pub rising_put : (xs : List X) (new : X) → IsRising (map key xs) → IsRising (map key (put new xs))
  rising_put xs new rising =
      is_rising 0 (map key (put new xs)) (rises_put 0 xs new (from_zero (map key xs) rising) (omega arith))

  -- only the item with its number is another one
  pub find_put : (low : ℕ) (xs : List X) (new : X) (n : ℕ) → RisesFrom low (map key xs)
      → find (λ x. eqb (key x) n) (put new xs) ≡ cond (eqb (key new) n) (Some new) (find (λ x. eqb (key x) n) xs)
  find_put low [] new n rises = refl
  find_put low (x ∷ xs) new n rises = elim (cases_lt (key x) (key new)) [
    | inl later ↦
        ap (λ ys. find (λ y. eqb (key y) n) ys) (put_later new x xs later)
        ∙ ap (λ o. cond (eqb (key x) n) (Some x) o) (find_put (suc (key x)) xs new n rises.1)
        ∙ either (eqb (key x) n) (eqb (key new) n) refl refl later
    | inr not_later ↦ elim (cases_lt (key new) (key x)) [
      | inl before ↦ ap (λ ys. find (λ y. eqb (key y) n) ys)
          (put_first new (key x) (x ∷ xs) (omega arith, rises.1) before)
      | inr not_before ↦
          let e : key x ≡ key new = omega arith in
          ap (λ ys. find (λ y. eqb (key y) n) ys) (put_here new x xs rises.1 e)
          ∙ same (eqb (key x) n) (eqb (key new) n) (ap (λ k. eqb k n) e)
    ]
  ] where
    either : (a b : Bool) → eqb (key x) n ≡ a → eqb (key new) n ≡ b → key x < key new
        → cond a (Some x) (cond b (Some new) (find (λ y. eqb (key y) n) xs))
        ≡ cond b (Some new) (cond a (Some x) (find (λ y. eqb (key y) n) xs))
    either false b ea eb lt = refl
    either true false ea eb lt = refl
    either true true ea eb lt = let p = eqb-true (key x) n ea in let q = eqb-true (key new) n eb in
        absurd (omega (arith, p, q))

    same : (a b : Bool) → a ≡ b → cond b (Some new) (find (λ y. eqb (key y) n) xs)
        ≡ cond b (Some new) (cond a (Some x) (find (λ y. eqb (key y) n) xs))
    same a true e = refl
    same a false e = sym (ap (λ c. cond c (Some x) (find (λ y. eqb (key y) n) xs)) e)

  each_append : (P : X → Type 0) (xs ys : List X) → AllByRecursion P xs → AllByRecursion P ys
      → AllByRecursion P (xs ++ ys)
  each_append P [] ys all more = more
  each_append P (x ∷ xs) ys all more = (all.0, each_append P xs ys all.1 more)

  each_filter : (P : X → Type 0) (test : X → Bool) (xs : List X) → AllByRecursion P xs
      → AllByRecursion P (filter test xs)
  each_filter P test [] all = tt
  each_filter P test (x ∷ xs) all = go (test x) (each_filter P test xs all.1) where
    go : (b : Bool) → AllByRecursion P (filter test xs)
        → AllByRecursion P (cond b (x ∷ filter test xs) (filter test xs))
    go true more = (all.0, more)
    go false more = more

  -- what holds of each item holds of each after one is put
  pub each_put : (P : X → Type 0) (xs : List X) (new : X) → AllByRecursion P xs → P new → AllByRecursion P (put new xs)
  each_put P xs new all own =
      each_append P (filter (λ x. ltb (key x) (key new)) xs) (new ∷ filter (λ x. ltb (key new) (key x)) xs)
      (each_filter P (λ x. ltb (key x) (key new)) xs all)
      (own, each_filter P (λ x. ltb (key new) (key x)) xs all)

  -- no item is both below and above a number
  apart : (n : ℕ) (xs : List X) → length (filter (λ x. ltb (key x) n) xs) + length (filter (λ x. ltb n (key x)) xs)
      ≤ length xs
  apart n [] = omega arith
  apart n (x ∷ xs) = go (ltb (key x) n) (ltb n (key x)) (λ below. le-ltb n (key x) (let lt = ltb-true (key x) n below in
      omega (arith, lt))) (apart n xs) where
        go : (a b : Bool) → (a ≡ true → b ≡ false)
            → length (filter (λ y. ltb (key y) n) xs) + length (filter (λ y. ltb n (key y)) xs) ≤ length xs
            → length (cond a (x ∷ filter (λ y. ltb (key y) n) xs) (filter (λ y. ltb (key y) n) xs))
            + length (cond b (x ∷ filter (λ y. ltb n (key y)) xs) (filter (λ y. ltb n (key y)) xs)) ≤ suc (length xs)
        go true true never le = let e = never refl in absurd cc
        go true false never le = omega (arith, le)
        go false true never le = omega (arith, le)
        go false false never le = omega (arith, le)

  -- a put adds at most one item
  pub few_put : (xs : List X) (new : X) → length (put new xs) ≤ length xs + 1
  few_put xs new =
      let both = length-append (filter (λ x. ltb (key x) (key new)) xs)
      (new ∷ filter (λ x. ltb (key new) (key x)) xs) in
      let le = apart (key new) xs in
      omega (arith, both, le)

  -- the items without the one of this number
  abbrev pub without : ℕ → List X → List X
  without n xs = filter (λ x. not (eqb (key x) n)) xs

  pub few_without : (n : ℕ) (xs : List X) → length (without n xs) ≤ length xs
  few_without n [] = omega arith
  few_without n (x ∷ xs) = go (eqb (key x) n) (few_without n xs) where
    go : (b : Bool) → length (without n xs) ≤ length xs
        → length (cond (not b) (x ∷ without n xs) (without n xs)) ≤ suc (length xs)
    go true le = omega (arith, le)
    go false le = omega (arith, le)

  pub each_without : (P : X → Type 0) (n : ℕ) (xs : List X) → AllByRecursion P xs → AllByRecursion P (without n xs)
  each_without P n xs all = each_filter P (λ x. not (eqb (key x) n)) xs all

  rises_lower : (low high : ℕ) (xs : List ℕ) → low ≤ high → RisesFrom high xs → RisesFrom low xs
  rises_lower low high [] le rises = tt
  rises_lower low high (x ∷ xs) le rises = (omega (arith, le, rises.0), rises.1)

  rises_without : (n low : ℕ) (xs : List X) → RisesFrom low (map key xs) → RisesFrom low (map key (without n xs))
  rises_without n low [] rises = tt
  rises_without n low (x ∷ xs) rises = go (eqb (key x) n) rises.0 (rises_without n (suc (key x)) xs rises.1) where
    go : (b : Bool) → low ≤ key x → RisesFrom (suc (key x)) (map key (without n xs))
        → RisesFrom low (map key (cond (not b) (x ∷ without n xs) (without n xs)))
    go true le more = rises_lower low (suc (key x)) (map key (without n xs)) (omega (arith, le)) more
    go false le more = (le, more)

  pub rising_without : (n : ℕ) (xs : List X) → IsRising (map key xs) → IsRising (map key (without n xs))
  rising_without n xs rising =
      is_rising 0 (map key (without n xs)) (rises_without n 0 xs (from_zero (map key xs) rising))

  -- where no item has the number, none is taken out
  pub without_none : (n : ℕ) (xs : List X) → find (λ x. eqb (key x) n) xs ≡ None → without n xs ≡ xs
  without_none n [] none = refl
  without_none n (x ∷ xs) none = go (eqb (key x) n) none (without_none n xs) where
    go : (b : Bool) → cond b (Some x) (find (λ y. eqb (key y) n) xs) ≡ None
        → (find (λ y. eqb (key y) n) xs ≡ None → without n xs ≡ xs)
        → cond (not b) (x ∷ without n xs) (without n xs) ≡ x ∷ xs
    go true found more = absurd (none-some x (sym found))
    go false none' more = ap (λ ys. x ∷ ys) (more none')

  without_above : (n low : ℕ) (xs : List X) → RisesFrom low (map key xs) → n < low → without n xs ≡ xs
  without_above n low [] rises lt = refl
  without_above n low (x ∷ xs) rises lt =
      ap (λ b. cond (not b) (x ∷ without n xs) (without n xs)) (ne_eqb (key x) n (omega (arith, rises.0, lt)))
      ∙ ap (λ ys. x ∷ ys) (without_above n (suc (key x)) xs rises.1 (omega (arith, rises.0, lt)))

  -- where a search found an item, it is the one that is taken out
  pub removed : (low : ℕ) (xs : List X) → RisesFrom low (map key xs) → (p n : ℕ) (d : X) → p < length xs
      → key (get_or xs p d) ≡ n → remove xs p ≡ without n xs
  removed low [] rises p n d lt e = absurd (omega arith)
  removed low (x ∷ xs) rises zero n d lt e =
      sym (ap (λ b. cond (not b) (x ∷ without n xs) (without n xs)) (eq-eqb (key x) n e)
      ∙ without_above n (suc (key x)) xs rises.1 (omega (arith, e)))
  removed low (x ∷ xs) rises (suc p) n d lt e =
      let above = low_key (suc (key x)) xs rises.1 p d (omega arith) in
      ap (λ ys. x ∷ ys) (removed (suc (key x)) xs rises.1 p n d (omega arith) e)
      ∙ sym (ap (λ b. cond (not b) (x ∷ without n xs) (without n xs)) (ne_eqb (key x) n (omega (arith, e, above))))

  -- only the item of this number is taken out
  pub find_without : (n m : ℕ) (xs : List X) → find (λ x. eqb (key x) m) (without n xs)
      ≡ cond (eqb n m) None (find (λ x. eqb (key x) m) xs)
  find_without n m [] = go (eqb n m) where
    go : (b : Bool) → ◌≡◌ {A = Option X} None (cond b None None)
    go true = refl
    go false = refl
  find_without n m (x ∷ xs) = go (eqb (key x) n) (eqb n m) (eqb (key x) m) refl refl refl (find_without n m xs) where
    go : (a b c : Bool) → eqb (key x) n ≡ a → eqb n m ≡ b → eqb (key x) m ≡ c
        → find (λ y. eqb (key y) m) (without n xs) ≡ cond b None (find (λ y. eqb (key y) m) xs)
        → find (λ y. eqb (key y) m) (cond (not a) (x ∷ without n xs) (without n xs))
        ≡ cond b None (cond c (Some x) (find (λ y. eqb (key y) m) xs))
    go true true c ea eb ec more = more
    go true false true ea eb ec more = absurd (eqb-false n m eb (sym (eqb-true (key x) n ea) ∙ eqb-true (key x) m ec))
    go true false false ea eb ec more = more
    go false true true ea eb ec more = absurd (eqb-false (key x) n ea (eqb-true (key x) m ec ∙ sym (eqb-true n m eb)))
    go false true false ea eb ec more = ap (λ b. cond b (Some x) (find (λ y. eqb (key y) m) (without n xs))) ec ∙ more
    go false false c ea eb ec more =
        ap (λ o. cond (eqb (key x) m) (Some x) o) more ∙ ap (λ b. cond b (Some x) (find (λ y. eqb (key y) m) xs)) ec
