-- Lists with one item replaced: what is found at each place, and sums over them.
use Rattle.std.proofs.Common.{◌≡◌, ℕ, zero, suc, ◌<◌, ◌≤◌, Bool, true, false, not, List, [], ◌∷◌, length, Some, arith}
use Rattle.std.proofs.Common.{refl, ap}
use Rattle.std.specs.Prelude.{slice_get, slice_set, ◌≢◌}
use Rattle.std.proofs.lemmas.List.{length-set}
use Rattle.std.proofs.lemmas.Option.{slice_get_within}
use Rattle.reg_facts.specs.Counting.{one_if, total}
use Rattle.reg_schedules.specs.World.{at_place, with_place}

pub get-there : {X : Type 0} (xs : List X) (k : ℕ) (x y : X) → slice_get xs k ≡ Some x
    → slice_get (slice_set xs k y) k ≡ Some y
get-there [] k x y e = absurd cc
get-there (z ∷ zs) zero x y e = refl
get-there (z ∷ zs) (suc k) x y e = get-there zs k x y e

pub get-else : {X : Type 0} (xs : List X) (k j : ℕ) (y : X) → k ≢ j → slice_get (slice_set xs k y) j ≡ slice_get xs j
get-else [] k j y ne = refl
get-else (z ∷ zs) zero zero y ne = absurd (ne refl)
get-else (z ∷ zs) zero (suc j) y ne = refl
get-else (z ∷ zs) (suc k) zero y ne = refl
get-else (z ∷ zs) (suc k) (suc j) y ne = get-else zs k j y (λ e. ne (ap suc e))

pub get-within : {X : Type 0} (xs : List X) (k : ℕ) → k < length xs → (x : X) × (slice_get xs k ≡ Some x)
get-within [] k lt = absurd (omega (arith, lt))
get-within (x ∷ xs) zero lt = (x, refl)
get-within (x ∷ xs) (suc k) lt = get-within xs k (omega (arith, lt))

-- ---- by place

pub place-there : {X : Type 0} (xs : List X) (place : ℕ) (x y : X) → at_place xs place ≡ Some x
    → at_place (with_place xs place y) place ≡ Some y
place-there xs zero x y e = absurd cc
place-there xs (suc k) x y e = get-there xs k x y e

pub place-else : {X : Type 0} (xs : List X) (place other : ℕ) (y : X) → place ≢ other
    → at_place (with_place xs place y) other ≡ at_place xs other
place-else xs zero other y ne = refl
place-else xs (suc k) zero y ne = refl
place-else xs (suc k) (suc j) y ne = get-else xs k j y (λ e. ne (ap suc e))

pub place-within : {X : Type 0} (xs : List X) (place : ℕ) → 1 ≤ place → place ≤ length xs
    → (x : X) × (at_place xs place ≡ Some x)
place-within xs zero low high = absurd (omega (arith, low))
place-within xs (suc k) low high = get-within xs k (omega (arith, high))

pub length-place : {X : Type 0} (xs : List X) (place : ℕ) (y : X) → length (with_place xs place y) ≡ length xs
length-place xs zero y = refl
length-place xs (suc k) y = length-set xs k y

pub at_within : {X : Type 0} (xs : List X) (place : ℕ) (x : X) → at_place xs place ≡ Some x
    → (1 ≤ place) × (place ≤ length xs)
at_within xs zero x e = absurd cc
at_within xs (suc k) x e = (omega arith, omega (arith, slice_get_within xs k x e))

-- ---- counts

-- what stands in a list counts in its sum
pub at-most-total : {X : Type 0} (f : X → ℕ) (xs : List X) (k : ℕ) (x : X) → slice_get xs k ≡ Some x → f x ≤ total f xs
at-most-total f [] k x e = absurd cc
at-most-total f (y ∷ ys) zero x e = let same : y ≡ x = cc in omega (arith, ap f same)
at-most-total f (y ∷ ys) (suc k) x e = omega (arith, at-most-total f ys k x e)

pub one-most : (b : Bool) → one_if b ≤ 1
one-most true = omega arith
one-most false = omega arith

pub if-true : (b : Bool) → 1 ≤ one_if b → b ≡ true
if-true true e = refl
if-true false e = absurd (omega (arith, e))

pub if-false : (b : Bool) → one_if b ≡ 0 → b ≡ false
if-false false e = refl
if-false true e = absurd (omega (arith, e))

pub is-true : (b : Bool) → one_if (not b) ≡ 0 → b ≡ true
is-true true e = refl
is-true false e = absurd (omega (arith, e))
