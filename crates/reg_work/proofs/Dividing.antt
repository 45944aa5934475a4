-- Dividing a list.
use Rattle.std.proofs.Common.{rules, ◌≡◌, ◌<◌, ◌≤◌, ℕ, ◌+◌, ◌-◌, ◌*◌, List, [], ◌∷◌, ◌++◌, All, map, take, drop}
use Rattle.std.proofs.Common.{vec_len, Vec, Global, arith, ap, ◌∙◌, refl, append_assoc, append-nil}
use Rattle.std.proofs.lemmas.Grind.{flat_map-append}
use Rattle.std.proofs.lemmas.List.{map-append, take-append-drop}
use Rattle.std.proofs.lemmas.List.Elements.{All-append}
use Rattle.reg_facts.specs.Lists.{joined_lists}

-- what is left after one part more
pub left_after : (count least larger index rest size after : ℕ) → index < count
    → rest ≡ (count - index) * least + (larger - index) → size + (larger - (index + 1)) ≡ least + (larger - index)
    → after + size ≡ rest
    → after ≡ (count - (index + 1)) * least + (larger - (index + 1))
left_after count least larger index rest size after few left even sum =
    let e : count - index ≡ (count - (index + 1)) + 1 = omega arith in
    let n : ℕ = count - (index + 1) in
    let s : (n + 1) * least ≡ n * least + least = omega arith in
    let m : (count - index) * least ≡ n * least + least = ap (λ n. n * least) e ∙ s in
    omega arith

module _ {T : Type 0} where
  -- one part more, and the rest, are the whole
  pub one_more : (parts new : List (Vec T Global)) (part after : Vec T Global) (size : ℕ) (rest all : List T)
      → new ≡ parts ++ part ∷ [] → part.items ≡ take size rest → after.items ≡ drop size rest
      → joined_lists parts ++ rest ≡ all
      → joined_lists new ++ after.items ≡ all
  one_more parts new part after size rest all is front back whole =
      rw (
        is,
        flat_map-append (λ (p : Vec T Global). p.items) parts (part ∷ []),
        append_assoc (joined_lists parts) (joined_lists (part ∷ [])) after.items,
        append-nil part.items,
        front,
        back,
        take-append-drop size rest,
      ) whole

  -- one part more
  pub even_more : (least : ℕ) (parts new : List (Vec T Global)) (part : Vec T Global) → new ≡ parts ++ part ∷ []
      → All (λ size. (least ≤ size) × (size ≤ least + 1)) (map vec_len parts) → (least ≤ vec_len part)
      × (vec_len part ≤ least + 1)
      → All (λ size. (least ≤ size) × (size ≤ least + 1)) (map vec_len new)
  even_more least parts new part is even one =
      rw (is, map-append vec_len parts (part ∷ []))
      (All-append (λ size. (least ≤ size) × (size ≤ least + 1)) (map vec_len parts) (vec_len part ∷ []) even
      (search rules))

  -- one part more, behind the others
  pub joined-more : (all parts : List (Vec T Global)) (part : Vec T Global) → all ≡ parts ++ part ∷ []
      → joined_lists all ≡ joined_lists parts ++ part.items
  joined-more all parts part is =
      rw (is, flat_map-append (λ (p : Vec T Global). p.items) parts (part ∷ []), append-nil part.items) refl
