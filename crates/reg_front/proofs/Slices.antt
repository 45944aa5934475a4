-- Ranges of a list of bytes, one behind the other, if the bytes are known.
use Rattle.std.proofs.Common.{◌≡◌, ℕ, zero, suc, ◌+◌, ◌-◌, ◌≤◌, List, [], ◌∷◌, ◌++◌, Option, None, Some, IfSome}
use Rattle.std.proofs.Common.{Vec, length, map, take, drop, get_or, refl, slice_range, sym, ap, subst, ◌∙◌, arith}
use Rattle.std.proofs.Common.{append-nil, take-add, take_all, drop-drop, length-drop}
use Rattle.std.proofs.lemmas.List.{length-append, length-map}
use Rattle.std.specs.Global.{Global}
use Rattle.reg_text.specs.Pieces.{text_of_pieces}
use Rattle.reg_front.specs.Ranges.{AreRanges, IsRange}

ranges-join : (xs : List ℕ) (a b c : ℕ) → a ≤ b → b ≤ c
    → slice_range xs a b ++ slice_range xs b c ≡ slice_range xs a c
ranges-join xs a b c low high =
    let whole : c - a ≡ (b - a) + (c - b) = omega arith in
    let at : a + (b - a) ≡ b = omega arith in
    sym (ap (λ n. take n (drop a xs)) whole ∙ take-add (b - a) (c - b) (drop a xs)
    ∙ ap (λ l. take (b - a) (drop a xs) ++ take (c - b) l) (drop-drop (b - a) a xs ∙ ap (λ k. drop k xs) at))

-- a range, and behind it another one
pub joined : (known : Option (List ℕ)) (first others all : List ℕ) (a b c : ℕ) → a ≤ b → b ≤ c
    → IfSome known (λ xs. first ≡ slice_range xs a b) → IfSome known (λ xs. others ≡ slice_range xs b c)
    → all ≡ first ++ others → IfSome known (λ xs. all ≡ slice_range xs a c)
joined None first others all a b c low high one other both = tt
joined (Some xs) first others all a b c low high one other both =
    both ∙ ap (λ l. l ++ others) one ∙ ap (λ l. slice_range xs a b ++ l) other ∙ ranges-join xs a b c low high

-- what is known of the pieces from one offset up to another
abbrev pub IsBetween : Option (List ℕ) → List (Vec ℕ Global) → ℕ → ℕ → Type 0
IsBetween known pieces from to =
    (from ≤ to) × IfSome known (λ xs. text_of_pieces pieces ≡ slice_range xs from to)

one-range : (known : Option (List ℕ)) (p : Vec ℕ Global) (from to : ℕ) → IsRange known from to (Some p)
    → IsBetween known (p ∷ []) from to
one-range None p from to is = (is.0, tt)
one-range (Some xs) p from to is = (is.0, append-nil p.items ∙ is.1)

more-ranges : (known : Option (List ℕ)) (p : Vec ℕ Global) (ps : List (Vec ℕ Global)) (from at to : ℕ)
    → IsRange known from at (Some p) → IsBetween known ps at to → IsBetween known (p ∷ ps) from to
more-ranges known p ps from at to is others = (
  omega (arith, is.0, others.0),
  joined known p.items (text_of_pieces ps) (text_of_pieces (p ∷ ps)) from at to is.0
      others.0 is.1 others.1 refl,
)

-- ranges in their order are the whole
pub ranges-between : (known : Option (List ℕ)) (cuts : List ℕ) (pieces : List (Vec ℕ Global)) (from to : ℕ)
    → length pieces ≡ suc (length cuts) → AreRanges known (from ∷ cuts ++ to ∷ []) (map Some pieces)
    → IsBetween known pieces from to
ranges-between known cuts [] from to len each = absurd (omega arith)
ranges-between known [] (p ∷ []) from to len each = one-range known p from to (each zero from to (Some p) (omega arith))
ranges-between known [] (p ∷ q ∷ ps) from to len each = absurd (omega arith)
ranges-between known (c ∷ cuts) (p ∷ ps) from to len each =
    more-ranges known p ps from c to (each zero from c (Some p) (omega arith))
    (ranges-between known cuts ps c to (omega arith) (λ i a b o lt. let next : suc i + 1 ≡ suc (i + 1) = omega arith in
    subst (λ n. IsRange known (get_or (c ∷ cuts ++ to ∷ []) i a) (get_or (from ∷ c ∷ cuts ++ to ∷ []) n b)
    (get_or (map Some ps) i o)) next (each (suc i) a b o (omega arith))))

pub between : (known : Option (List ℕ)) (cuts offsets : List ℕ) (read : List (Option (Vec ℕ Global)))
    (pieces : List (Vec ℕ Global)) (from to : ℕ) → offsets ≡ from ∷ cuts ++ to ∷ [] → length read + 1 ≡ length offsets
    → AreRanges known offsets read → map Some pieces ≡ read → IsBetween known pieces from to
between known cuts offsets read pieces from to are len each all =
    let as_many : length pieces ≡ length read = sym (length-map pieces Some) ∙ ap length all in
    let bounds : length offsets ≡ suc (length (cuts ++ to ∷ [])) = ap length are in
    let more : length (cuts ++ to ∷ []) ≡ length cuts + 1 = length-append cuts (to ∷ []) in
    ranges-between known cuts pieces from to (omega (arith, as_many, len, bounds, more))
    (subst (λ os. AreRanges known os (map Some pieces)) are (subst (AreRanges known offsets) (sym all) each))

-- a range up to the end, or beyond it
pub whole : (known : Option (List ℕ)) (text : List ℕ) (a b : ℕ) → a ≤ b
    → IfSome known (λ xs. text ≡ slice_range xs a b) → IfSome known (λ xs. length xs ≤ b)
    → IfSome known (λ xs. text ≡ drop a xs)
whole None text a b order range end = tt
whole (Some xs) text a b order range end =
    let long = length-drop a xs in
    range ∙ take_all (b - a) (drop a xs) (omega (arith, long, order, end))
