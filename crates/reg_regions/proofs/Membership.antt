-- Which numbers stand in a list, and places that rise.
use Rattle.std.proofs.Common.{◌≡◌, ℕ, zero, suc, ◌<◌, ◌≤◌, Bool, true, false, cond, leb, List, [], ◌∷◌}
use Rattle.std.proofs.Common.{take, None, refl, ap, ◌∙◌, arith}
use Rattle.std.specs.Prelude.{Contains, All, slice_get}
use Rattle.std.proofs.lemmas.Bool.{le-leb, leb-true}
use Rattle.std.proofs.lemmas.List.Elements.{All-head, All-tail}
use Rattle.reg_regions.specs.Regions.{RiseAbove, up_to}

pub contains_first : (p : ℕ) (ps : List ℕ) → Contains (p ∷ ps) p
contains_first p ps = (zero, omega arith, refl)

pub contains_later : (p q : ℕ) (ps : List ℕ) → Contains ps q → Contains (p ∷ ps) q
contains_later p q ps (k, lt, is) = (suc k, omega arith, is)

pub contains_none : (q : ℕ) → Contains [] q → ⊥
contains_none q (k, lt, is) = omega arith

-- places that rise are above where they begin
pub above : (low q : ℕ) (ps : List ℕ) → RiseAbove low ps → Contains ps q → low < q
above low q [] rising there = absurd (contains_none q there)
above low q (p ∷ ps) rising (zero, lt, is) = omega (arith, rising.0, is)
above low q (p ∷ ps) rising (suc k, lt, is) =
    let later = above p q ps rising.1 (k, omega arith, is) in omega (arith, rising.0, later)

-- one that is above the first is among the others
pub among_later : (p q : ℕ) (ps : List ℕ) → p < q → Contains (p ∷ ps) q → Contains ps q
among_later p q ps lt (zero, in', is) = absurd (omega (arith, lt, is))
among_later p q ps lt (suc k, in', is) = (k, omega arith, is)

-- none of the places up to a lower number
pub up_to-none : (low j : ℕ) (ps : List ℕ) → RiseAbove low ps → j ≤ low → up_to j ps ≡ []
up_to-none low j [] rising le = refl
up_to-none low j (p ∷ ps) rising le_low =
    by (leb p j) refl (up_to-none p j ps rising.1 (omega (arith, rising.0, le_low)))
  where
    by : (b : Bool) → leb p j ≡ b → up_to j ps ≡ [] → cond b (p ∷ up_to j ps) (up_to j ps) ≡ []
    by true within rest = absurd (let le = leb-true p j within in omega (arith, le, rising.0, le_low))
    by false beyond rest = rest

-- all places, if all are up to this number
pub up_to-all : (j : ℕ) (ps : List ℕ) → All (λ p. p ≤ j) ps → up_to j ps ≡ ps
up_to-all j [] all = refl
up_to-all j (p ∷ ps) all =
    ap (λ b. cond b (p ∷ up_to j ps) (up_to j ps)) (le-leb p j (All-head (λ q. q ≤ j) p ps all))
    ∙ ap (λ l. p ∷ l) (up_to-all j ps (All-tail (λ q. q ≤ j) p ps all))

pub take_none : {X : Type 0} (xs : List X) (k : ℕ) → slice_get xs k ≡ None → take (suc k) xs ≡ take k xs
take_none [] zero none = refl
take_none [] (suc k) none = refl
take_none (x ∷ xs) zero none = absurd cc
take_none (x ∷ xs) (suc k) none = ap (λ l. x ∷ l) (take_none xs k none)
