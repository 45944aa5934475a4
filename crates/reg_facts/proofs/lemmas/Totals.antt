-- Sums over lists: of a list with one item replaced, of two lists, of equal items.
use Rattle.std.proofs.Common.{◌≡◌, ℕ, zero, suc, ◌+◌, List, [], ◌∷◌, ◌++◌, Some, arith, refl}
use Rattle.std.specs.Prelude.{slice_get, slice_set, replicate}
use Rattle.reg_facts.specs.Counting.{total}

pub total-set : {X : Type 0} (f : X → ℕ) (xs : List X) (k : ℕ) (x y : X) → slice_get xs k ≡ Some x
    → total f (slice_set xs k y) + f x ≡ total f xs + f y
total-set f [] k x y e = absurd cc
total-set f (z ∷ zs) zero x y e = let same : z ≡ x = cc in rw same (omega arith)
total-set f (z ∷ zs) (suc k) x y e = omega (arith, total-set f zs k x y e)

pub total-append : {X : Type 0} (f : X → ℕ) (xs ys : List X) → total f (xs ++ ys) ≡ total f xs + total f ys
total-append f [] ys = omega arith
total-append f (x ∷ xs) ys = omega (arith, total-append f xs ys)

pub total-replicate : {X : Type 0} (f : X → ℕ) (n : ℕ) (x : X) → f x ≡ 0 → total f (replicate n x) ≡ 0
total-replicate f zero x e = refl
total-replicate f (suc n) x e = omega (arith, e, total-replicate f n x e)
