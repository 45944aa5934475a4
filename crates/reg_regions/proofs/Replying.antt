-- Replies that stand at their places.
use Rattle.std.proofs.Common.{◌≡◌, ◌⊎◌, ℕ, zero, suc, ◌+◌, List, [], ◌∷◌, ◌++◌, length, Option, Some, refl, sym, ap}
use Rattle.std.proofs.Common.{subst, ◌∙◌, inl, inr, ⊎_elim, arith}
use Rattle.std.specs.Prelude.{All, Contains, slice_get}
use Rattle.std.proofs.lemmas.List.{length-append}
use Rattle.std.proofs.lemmas.List.Elements.{All-contains}
use Rattle.std.proofs.lemmas.Option.{same_Some}
use Rattle.reg_rules.specs.declared.reply.Reply.{Reply}
use Rattle.reg_regions.specs.declared.instruction.Placed.{Placed}
use Rattle.reg_regions.specs.Dealing.{AreInPlaces}

-- the reply is the one that is told of its place
unfoldable pub IsTold : (ℕ → Option Reply) → Placed → Type 0
IsTold told p = Some p.reply ≡ told p.place

got-last : (xs : List Reply) (y : Reply) (k : ℕ) (r : Reply) → slice_get (xs ++ y ∷ []) k ≡ Some r
    → (slice_get xs k ≡ Some r) ⊎ ((k ≡ length xs) × (y ≡ r))
got-last [] y zero r at = inr (refl, same_Some y r at)
got-last [] y (suc k) r at = absurd cc
got-last (x ∷ xs) y zero r at = inl at
got-last (x ∷ xs) y (suc k) r at =
    ⊎_elim (λ there. inl there) (λ last. inr (ap suc last.0, last.1)) (got-last xs y k r at)

-- no reply stands at its place yet
pub none-in_places : (told : List Placed) → AreInPlaces 0 told []
none-in_places told = record { as_many = refl; each = λ k r at. absurd cc }

-- one reply more
pub more-in_places : (n : ℕ) (told : List Placed) (replies : List Reply) (p : Placed) → AreInPlaces n told replies
    → Contains told p → p.place ≡ n + 1 → AreInPlaces (n + 1) told (replies ++ p.reply ∷ [])
more-in_places n told replies p before there is = record {
  as_many = let many = before.as_many in omega (arith, length-append replies (p.reply ∷ []), many);
  each = λ k r at. ⊎_elim (λ old. before.each k r old)
      (λ last.
      let place : p.place ≡ suc k = let many = before.as_many in let k_is = last.0 in omega (arith, is, many, k_is) in
      subst (Contains told) (λ i. record { place = place i; reply = last.1 i }) there)
      (got-last replies p.reply k r at);
}

-- lists with the same at each index are the same
same-got : (xs ys : List Reply) → length xs ≡ length ys
    → ((k : ℕ) (r : Reply) → slice_get xs k ≡ Some r → slice_get ys k ≡ Some r) → xs ≡ ys
same-got [] [] size each = refl
same-got [] (y ∷ ys) size each = absurd (omega (arith, size))
same-got (x ∷ xs) [] size each = absurd (omega (arith, size))
same-got (x ∷ xs) (y ∷ ys) size each =
    ap (λ r. r ∷ xs) (sym (same_Some y x (each 0 x refl)))
    ∙ ap (λ l. y ∷ l) (same-got xs ys (omega (arith, size)) (λ k r at. each (suc k) r at))

-- if each reply is the one that is told of its place, and stands there, they are all that is told
pub told-in_places : (told : ℕ → Option Reply) (count : ℕ) (placed : List Placed) (replies all : List Reply)
    → AreInPlaces count placed replies → All (IsTold told) placed → length all ≡ count
    → ((k : ℕ) → told (suc k) ≡ slice_get all k) → replies ≡ all
unfolding IsTold
told-in_places told count placed replies all in_places right many is =
    same-got replies all (in_places.as_many ∙ sym many) (λ k r at.
    sym (is k) ∙ sym (All-contains (IsTold told) placed (record { place = suc k; reply = r }) right
    (in_places.each k r at)))
