-- Lists that rise by a number are one if they have the same elements.
use Rattle.std.proofs.Common.{◌≡◌, ℕ, zero, suc, ◌<◌, ◌≤◌, inl, inr, eqb, false, List, [], ◌∷◌, length, get_or, map}
use Rattle.std.proofs.Common.{refl, sym, ap, ◌∙◌, arith}
use Rattle.std.specs.Prelude.{AllPairs}
use Rattle.std.specs.List.{IsDistinct}
use Rattle.std.specs.List.Sorted.{IsNonDecreasingBy}
use Rattle.std.proofs.lemmas.Bool.{eqb-false, ne_eqb}
use Rattle.std.proofs.lemmas.List.Kept.{AllPairs-from_increasing}
use Rattle.reg_facts.proofs.lemmas.Members.{of_member, of_each_member, In, contains_from}
use Rattle.reg_base.specs.Rising.{IsRising}

-- each later element has a higher number
abbrev pub Up : {X : Type 0} → (X → ℕ) → List X → Type 0
Up key [] = Unit {0}
Up {X} key (x ∷ xs) = ((y : X) → In y xs → key x < key y) × Up key xs

-- lists that rise and have the same elements are one
pub same_rising : {X : Type 0} (key : X → ℕ) (xs ys : List X) → Up key xs → Up key ys → ((x : X) → In x xs → In x ys)
    → ((x : X) → In x ys → In x xs) → xs ≡ ys
same_rising key [] [] up_x up_y there back = refl
same_rising key [] (y ∷ ys) up_x up_y there back = absurd (back y (inl refl))
same_rising key (x ∷ xs) [] up_x up_y there back = absurd (there x (inl refl))
same_rising {X} key (x ∷ xs) (y ∷ ys) up_x up_y there back =
    ap (λ z. z ∷ xs) head ∙ ap (λ zs. y ∷ zs) (same_rising key xs ys up_x.1 up_y.1 there_more back_more)
  where
    head : x ≡ y
    head = elim (there x (inl refl)) [
      | inl e ↦ sym e
      | inr m ↦ elim (back y (inl refl)) [
        | inl e ↦ e
        | inr n ↦ absurd (omega (arith, up_y.0 x m, up_x.0 y n))
      ]
    ]

    there_more : (z : X) → In z xs → In z ys
    there_more z m = elim (there z (inr m)) [
      | inl e ↦ absurd (omega (arith, up_x.0 z m, ap key head, ap key e))
      | inr n ↦ n
    ]

    back_more : (z : X) → In z ys → In z xs
    back_more z m = elim (back z (inr m)) [
      | inl e ↦ absurd (omega (arith, up_y.0 z m, ap key head, ap key e))
      | inr n ↦ n
    ]

pub in_map : {X Y : Type 0} (f : X → Y) (xs : List X) (x : X) → In x xs → In (f x) (map f xs)
in_map f [] x m = absurd m
in_map f (y ∷ ys) x (inl e) = inl (ap f e)
in_map f (y ∷ ys) x (inr m) = inr (in_map f ys x m)

pub of_map : {X Y : Type 0} (f : X → Y) (xs : List X) (y : Y) → In y (map f xs) → (x : X) × In x xs × (f x ≡ y)
of_map f [] y m = absurd m
of_map f (x ∷ xs) y (inl e) = (x, inl refl, e)
of_map f (x ∷ xs) y (inr m) = let r = of_map f xs y m in (r.0, inr r.1, r.2)

-- what rises has no number twice
pub up_distinct : {X : Type 0} (key : X → ℕ) (xs : List X) → Up key xs → IsDistinct eqb (map key xs)
unfolding IsDistinct
up_distinct key [] up = tt
up_distinct key (x ∷ xs) up = (
  of_each_member (λ n. eqb (key x) n ≡ false) (map key xs) (λ n m. let r = of_map key xs n m in
      ne_eqb (key x) n (λ e. omega (arith, e, r.2, up.0 r.0 r.1))),
  up_distinct key xs up.1,
)

-- what is sorted and has no number twice rises
pub up_sorted : {X : Type 0} (key : X → ℕ) (xs : List X) → IsNonDecreasingBy key xs → IsDistinct eqb (map key xs)
    → Up key xs
unfolding IsDistinct
up_sorted key [] sorted distinct = tt
up_sorted {X} key (x ∷ xs) sorted distinct = (
  (λ y m. higher y m),
  up_sorted key xs (λ i j d le lt. sorted (suc i) (suc j) d (omega (arith, le)) (omega (arith, lt))) distinct.1,
) where
  higher : (y : X) → In y xs → key x < key y
  higher y m =
      let c = contains_from xs y m in
      let le : key x ≤ key (get_or xs c.0 y) = sorted 0 (suc c.0) y (omega arith) (omega (arith, c.1)) in
      let ne : key x ≡ key y → ⊥ =
      eqb-false (key x) (key y)
      (of_member (λ n. eqb (key x) n ≡ false) (map key xs) (key y) distinct.0 (in_map key xs y m)) in
      omega (arith, le, ap key c.2, ne)

index_of : {X : Type 0} (key : X → ℕ) (xs : List X) (x : X) → In x xs → (k : ℕ) × (k < length (map key xs))
    × (get_or (map key xs) k 0 ≡ key x)
index_of key [] x m = absurd m
index_of key (y ∷ ys) x (inl e) = (0, omega arith, ap key e)
index_of key (y ∷ ys) x (inr m) = let r = index_of key ys x m in (suc r.0, omega (arith, r.1), r.2)

up_pairs : {X : Type 0} (key : X → ℕ) (xs : List X) → AllPairs (λ x y. x < y) (map key xs) → Up key xs
up_pairs key [] pairs = tt
up_pairs key (x ∷ xs) pairs = (
  (λ y m. let r = index_of key xs y m in
      let lt : key x < get_or (map key xs) r.0 0 = pairs 0 (suc r.0) 0 (omega arith) (omega (arith, r.1)) in
      omega (arith, lt, r.2)),
  up_pairs key xs (λ i j d lt within. pairs (suc i) (suc j) d (omega (arith, lt)) (omega (arith, within))),
)

pub up_rising : {X : Type 0} (key : X → ℕ) (xs : List X) → IsRising (map key xs) → Up key xs
up_rising key xs rising = up_pairs key xs (AllPairs-from_increasing (map key xs) rising)

in_at : {X : Type 0} (xs : List X) (k : ℕ) (d : X) → k < length xs → In (get_or xs k d) xs
in_at [] k d lt = absurd (omega (arith, lt))
in_at (x ∷ xs) zero d lt = inl refl
in_at (x ∷ xs) (suc k) d lt = inr (in_at xs k d (omega (arith, lt)))

-- what rises does not fall
pub ascending : {X : Type 0} (key : X → ℕ) (xs : List X) → Up key xs → (i j : ℕ) (d : X) → i ≤ j → j < length xs
    → key (get_or xs i d) ≤ key (get_or xs j d)
ascending key [] up i j d le lt = absurd (omega (arith, lt))
ascending key (x ∷ xs) up zero zero d le lt = omega arith
ascending key (x ∷ xs) up zero (suc j) d le lt = let lower : key x < key (get_or xs j d) =
    up.0 (get_or xs j d) (in_at xs j d (omega (arith, lt))) in omega (arith, lower)
ascending key (x ∷ xs) up (suc i) zero d le lt = absurd (omega (arith, le))
ascending key (x ∷ xs) up (suc i) (suc j) d le lt = ascending key xs up.1 i j d (omega (arith, le)) (omega (arith, lt))

-- the keys of what rises rise
pub up_keys : {X : Type 0} (key : X → ℕ) (xs : List X) → Up key xs → Up (λ n. n) (map key xs)
up_keys key [] up = tt
up_keys key (x ∷ xs) up = ((λ n m. let r = of_map key xs n m in omega (arith, r.2, up.0 r.0 r.1)), up_keys key xs up.1)

-- elements that are sorted, with no number twice, have the numbers of a list that rises if these are the same numbers
pub keys_are : {X : Type 0} (key : X → ℕ) (xs : List X) (ns : List ℕ) → Up (λ n. n) ns → IsNonDecreasingBy key xs
    → IsDistinct eqb (map key xs)
    → ((n : ℕ) → In n (map key xs) → In n ns) → ((n : ℕ) → In n ns → In n (map key xs)) → map key xs ≡ ns
keys_are key xs ns rise sorted distinct there back =
    same_rising (λ n. n) (map key xs) ns (up_keys key xs (up_sorted key xs sorted distinct)) rise there back
