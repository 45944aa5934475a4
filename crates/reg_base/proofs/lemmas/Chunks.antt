-- What is made of chunks, one behind the other, is made of the whole list.
use Rattle.std.proofs.Common.{◌≡◌, ℕ, zero, suc, min, ◌+◌, ◌*◌, ◌/◌, ◌%◌, ◌<◌, ◌≤◌, List, [], ◌∷◌, length, get_or}
use Rattle.std.proofs.Common.{take, drop, refl, sym, ap, subst, ◌∙◌, arith, length-drop}
use Rattle.std.proofs.Math.Nat.{suc-mul, zero-mul}
use Rattle.std.proofs.lemmas.Nat.{div-add-mod', mod_below}
use Rattle.std.proofs.lemmas.List.{drop-drop}
use Rattle.reg_base.specs.Chunks.{MadeOfChunks}

-- each of these is of a chunk of the values, one chunk behind the other; the first value has this index
unfoldable pub ChunksOf : {X Y : Type 0} → (ℕ → List X → Y → Type 0) → ℕ → List X → ℕ → List Y → Type 0
ChunksOf IsOf first xs size [] = xs ≡ []
ChunksOf IsOf first xs size (y ∷ made) =
    IsOf first (take size xs) y × ChunksOf IsOf (first + size) (drop size xs) size made

-- the same by their numbers
abbrev MadeFrom : {X Y : Type 0} → (ℕ → List X → Y → Type 0) → ℕ → List X → ℕ → List Y → Type 0
MadeFrom {X} {Y} IsOf first xs size made = (n : ℕ) (y : Y) → n < length made
    → IsOf (first + n * size) (take size (drop (n * size) xs)) (get_or made n y)

chunks-from : {X Y : Type 0} (IsOf : ℕ → List X → Y → Type 0) (size : ℕ) (made : List Y) (first : ℕ) (xs : List X)
    → MadeFrom IsOf first xs size made → length xs ≤ length made * size → ChunksOf IsOf first xs size made
unfolding ChunksOf
chunks-from IsOf size [] first [] each few = refl
chunks-from IsOf size [] first (x ∷ xs) each few = absurd (omega arith)
chunks-from {X} {Y} IsOf size (y ∷ made) first xs each few =
    let none : 0 * size ≡ 0 = zero-mul size in
    let here : first + 0 ≡ first = omega arith in
    let one : IsOf first (take size xs) y = subst (λ (k : ℕ). IsOf k (take size xs) y) here
    (subst (λ (k : ℕ). IsOf (first + k) (take size (drop k xs)) y) none (each 0 y (omega arith))) in
    let less : length (drop size xs) ≤ length made * size =
    omega (arith, length-drop size xs, suc-mul (length made) size, few) in
    let behind : MadeFrom IsOf (first + size) (drop size xs) size made = λ n z lt.
    let values : drop (suc n * size) xs ≡ drop (n * size) (drop size xs) =
    ap (λ (k : ℕ). drop k xs) (omega (arith, suc-mul n size)) ∙ sym (drop-drop (n * size) size xs) in
    let index : first + suc n * size ≡ first + size + n * size = omega (arith, suc-mul n size) in
    let later : IsOf (first + suc n * size) (take size (drop (suc n * size) xs)) (get_or made n z) =
    each (suc n) z (omega arith) in
    subst (λ (k : ℕ). IsOf k (take size (drop (n * size) (drop size xs))) (get_or made n z)) index
    (subst (λ (ys : List X). IsOf (first + suc n * size) (take size ys) (get_or made n z)) values later) in
    (one, chunks-from IsOf size made (first + size) (drop size xs) behind less)

-- so many chunks reach to the end
reach-by : (q r size len count : ℕ) → q * size + r ≡ len → r < size → count ≡ q + min 1 r → len ≤ count * size
reach-by q zero size len count e b is = let same : count ≡ q = omega arith in rw same (omega (arith, e))
reach-by q (suc r) size len count e b is = let same : count ≡ suc q = omega arith in
    rw same (omega (arith, e, b, suc-mul q size))

reach : (count len size : ℕ) → 0 < size → count ≡ len / size + min 1 (len % size) → len ≤ count * size
reach count len size some is =
    reach-by (len / size) (len % size) size len count (div-add-mod' len size) (mod_below len size some) is

pub chunks-of : {X Y : Type 0} (IsOf : ℕ → List X → Y → Type 0) (size : ℕ) (made : List Y) (xs : List X) → 0 < size
    → length made ≡ length xs / size + min 1 (length xs % size) → MadeOfChunks IsOf xs size made
    → ChunksOf IsOf 0 xs size made
chunks-of IsOf size made xs some len each =
    chunks-from IsOf size made 0 xs (λ n y lt. let index : n * size ≡ 0 + n * size = omega arith in
    subst (λ (k : ℕ). IsOf k (take size (drop (n * size) xs)) (get_or made n y)) index (each n y lt))
    (reach (length made) (length xs) size some len)
