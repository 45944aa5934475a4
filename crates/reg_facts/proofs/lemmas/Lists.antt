-- Lists: what holds of each element (of two lists behind each other, of what a filter keeps), a list without repeats, a
-- list seen through a function, swaps, and a slice that was written as a whole.
use Rattle.std.proofs.Common.{◌≡◌, ℕ, zero, suc, ◌<◌, Bool, true, false, List, [], ◌∷◌, ◌++◌, map, length, get_or, set}
use Rattle.std.proofs.Common.{take, drop, Option, Some, None, refl, sym, ap, ◌∙◌, inl, inr, arith, append-nil}
use Rattle.std.specs.Prelude.{filter, slice_get}
use Rattle.std.specs.List.{AllByRecursion, IsDistinct, list_all, swap}
use Rattle.std.specs.Option.{option_map_or, option_to_list}
use Rattle.std.proofs.Math.Bool.{and-true}
use Rattle.std.proofs.lemmas.Bool.{cond_both, cases_eq}
use Rattle.std.proofs.lemmas.List.{same_lists, map-set, get_or-map, drop_all, take_all}
use Rattle.std.proofs.lemmas.List.Edits.{length-swap, swapped_from_swap}

-- ---- what holds of each element

-- what holds of each of two lists holds of one behind the other, and the other way round
pub all-append : {X : Type 0} (P : X → Type 0) (xs ys : List X) → AllByRecursion P xs → AllByRecursion P ys
    → AllByRecursion P (xs ++ ys)
all-append P [] ys h k = k
all-append P (x ∷ xs) ys h k = (h.0, all-append P xs ys h.1 k)

pub all-first : {X : Type 0} (P : X → Type 0) (xs ys : List X) → AllByRecursion P (xs ++ ys) → AllByRecursion P xs
all-first P [] ys h = tt
all-first P (x ∷ xs) ys h = (h.0, all-first P xs ys h.1)

pub all-rest : {X : Type 0} (P : X → Type 0) (xs ys : List X) → AllByRecursion P (xs ++ ys) → AllByRecursion P ys
all-rest P [] ys h = h
all-rest P (x ∷ xs) ys h = all-rest P xs ys h.1

-- what holds of each holds with one more at the end
pub all-push : {X : Type 0} (P : X → Type 0) (xs : List X) (x : X) → AllByRecursion P xs → P x
    → AllByRecursion P (xs ++ x ∷ [])
all-push P xs x all one = all-append P xs (x ∷ []) all (one, tt)

-- what follows from it holds of each
pub all-weaker : {X : Type 0} (P Q : X → Type 0) → ((x : X) → P x → Q x) → (xs : List X) → AllByRecursion P xs
    → AllByRecursion Q xs
all-weaker P Q follow [] h = tt
all-weaker P Q follow (x ∷ xs) h = (follow x h.0, all-weaker P Q follow xs h.1)

-- what holds of each element holds of each that a filter keeps
pub all-filter : {X : Type 0} (P : X → Type 0) (p : X → Bool) (xs : List X) → AllByRecursion P xs
    → AllByRecursion P (filter p xs)
all-filter P p [] all = tt
all-filter P p (x ∷ xs) all =
    let more = all-filter P p xs all.1 in
    cond_both (p x) (x ∷ filter p xs) (filter p xs) (AllByRecursion P) (λ _. (all.0, more)) (λ _. more)

-- what follows from the test holds of each that a filter keeps
pub all-kept : {X : Type 0} (P : X → Type 0) (p : X → Bool) → ((x : X) → p x ≡ true → P x) → (xs : List X)
    → AllByRecursion P (filter p xs)
all-kept P p holds [] = tt
all-kept P p holds (x ∷ xs) =
    let more = all-kept P p holds xs in
    cond_both (p x) (x ∷ filter p xs) (filter p xs) (AllByRecursion P) (λ passes. (holds x passes, more)) (λ _. more)

-- what a filter keeps of a list without repeats has none
pub distinct-filter : {X : Type 0} (e : X → X → Bool) (p : X → Bool) (xs : List X) → IsDistinct e xs
    → IsDistinct e (filter p xs)
unfolding IsDistinct
distinct-filter e p [] d = tt
distinct-filter e p (x ∷ xs) d =
    let more = distinct-filter e p xs d.1 in
    cond_both (p x) (x ∷ filter p xs) (filter p xs) (IsDistinct e)
    (λ _. (all-filter (λ y. e x y ≡ false) p xs d.0, more)) (λ _. more)

-- what a test says of an option, as a list of one element or none
pub list_all-option : {X : Type 0} (p : X → Bool) (o : Option X)
    → list_all p (option_to_list o) ≡ option_map_or p o true
list_all-option p None = refl
list_all-option p (Some x) = and-true (p x)

-- ---- elements by their index

-- an element of a list that is seen through a function
pub slice_get-view : {X Y : Type 0} (f : X → Y) (xs : List X) (k : ℕ) (x : X) → k < length xs → x ≡ get_or xs k x
    → slice_get (map f xs) k ≡ Some (f x)
slice_get-view f [] k x lt e = absurd (omega (arith, lt))
slice_get-view f (y ∷ ys) zero x lt e = ap (λ z. Some (f z)) (sym e)
slice_get-view f (y ∷ ys) (suc k) x lt e = slice_get-view f ys k x (omega (arith, lt)) e

-- a slice that was written as a whole
pub written_whole : {X : Type 0} (now new : List X) (len : ℕ) → len ≡ length now → length new ≡ length now
    → take len (new ++ drop (length new) now) ≡ new
written_whole now new len size kept =
    ap (λ l. take len (new ++ l)) (drop_all (length new) now (omega (arith, kept)))
    ∙ ap (take len) (append-nil new) ∙ take_all len new (omega (arith, size, kept))

-- a swap made twice is none
pub swap-twice : {X : Type 0} (xs : List X) (a b : ℕ) → a < length xs → b < length xs → swap (swap xs a b) a b ≡ xs
swap-twice xs a b a_in b_in =
    let size : length (swap xs a b) ≡ length xs = length-swap xs a b in
    same_lists (swap (swap xs a b) a b) xs (length-swap (swap xs a b) a b ∙ size) (λ k d lt.
    let once = swapped_from_swap xs (swap xs a b) a b d a_in b_in refl in
    let twice = swapped_from_swap (swap xs a b) (swap (swap xs a b) a b) a b d (omega (arith, size, a_in))
    (omega (arith, size, b_in)) refl in
    elim (cases_eq k a) [
      | inl at_a ↦ ap (λ m. get_or (swap (swap xs a b) a b) m d) at_a ∙ twice.0 ∙ once.1
          ∙ ap (λ m. get_or xs m d) (sym at_a)
      | inr not_a ↦ elim (cases_eq k b) [
        | inl at_b ↦ ap (λ m. get_or (swap (swap xs a b) a b) m d) at_b ∙ twice.1 ∙ once.0
            ∙ ap (λ m. get_or xs m d) (sym at_b)
        | inr not_b ↦ twice.2 k not_a not_b ∙ once.2 k not_a not_b
      ]
    ])

-- a view of swapped elements
pub map-swap : {X Y : Type 0} (f : X → Y) (xs : List X) (a b : ℕ) → a < length xs → b < length xs
    → map f (swap xs a b) ≡ swap (map f xs) a b
map-swap f [] a b a_in b_in = refl
map-swap f (d ∷ ys) a b a_in b_in =
    map-set f (set (d ∷ ys) a (get_or (d ∷ ys) b d)) b (get_or (d ∷ ys) a d)
    ∙ ap (λ l. set l b (f (get_or (d ∷ ys) a d))) (map-set f (d ∷ ys) a (get_or (d ∷ ys) b d))
    ∙ ap (λ y. set (set (f d ∷ map f ys) a y) b (f (get_or (d ∷ ys) a d))) (sym (get_or-map f (d ∷ ys) b d (f d) b_in))
    ∙ ap (λ y. set (set (f d ∷ map f ys) a (get_or (f d ∷ map f ys) b (f d))) b y)
    (sym (get_or-map f (d ∷ ys) a d (f d) a_in))
