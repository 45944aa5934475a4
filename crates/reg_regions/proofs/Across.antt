-- Swaps over two lists that lie one behind the other.
use Rattle.std.proofs.Common.{◌≡◌, ℕ, ◌+◌, ◌-◌, ◌<◌, ◌≤◌, List, [], ◌∷◌, ◌++◌, length, get_or, set}
use Rattle.std.proofs.Common.{sym, ap, ◌∙◌, arith}
use Rattle.std.specs.List.{swap}
use Rattle.std.proofs.lemmas.List.{set-append_left, set-append_right, length-append, length-set}
use Rattle.std.proofs.lemmas.List.{get_or_append_left, get_or-append_right}
use Rattle.std.proofs.lemmas.List.Edits.{swap_is}

module _ {X : Type 0} (xs ys : List X) (n a b : ℕ) (size : length xs ≡ n) (d : X) where
  whole : length (xs ++ ys) ≡ length xs + length ys
  whole = length-append xs ys

  -- both in front
  front : a < n → b < n → swap xs a b ++ ys ≡ swap (xs ++ ys) a b
  front a_in b_in =
      let a_lt : a < length xs = omega (arith, a_in, size) in
      let b_lt : b < length xs = omega (arith, b_in, size) in
      let x = get_or xs a d in
      let y = get_or xs b d in
      ap (λ l. l ++ ys) (sym (swap_is xs a b d a_lt b_lt))
      ∙ sym (set-append_left (set xs a y) ys b x (let e = length-set xs a y in omega (arith, e, b_lt)))
      ∙ ap (λ l. set l b x) (sym (set-append_left xs ys a y a_lt))
      ∙ ap (λ z. set (set (xs ++ ys) a z) b x) (sym (get_or_append_left xs ys d b b_lt))
      ∙ ap (λ z. set (set (xs ++ ys) a (get_or (xs ++ ys) b d)) b z) (sym (get_or_append_left xs ys d a a_lt))
      ∙ swap_is (xs ++ ys) a b d (omega (arith, a_lt, whole)) (omega (arith, b_lt, whole))

  -- both behind
  behind : n ≤ a → n ≤ b → a - n < length ys → b - n < length ys
      → xs ++ swap ys (a - n) (b - n) ≡ swap (xs ++ ys) a b
  behind a_in b_in a_lt b_lt =
      let x = get_or ys (a - n) d in
      let y = get_or ys (b - n) d in
      ap (λ l. xs ++ l) (sym (swap_is ys (a - n) (b - n) d a_lt b_lt))
      ∙ sym (set-append_right xs (set ys (a - n) y) n b x size b_in)
      ∙ ap (λ l. set l b x) (sym (set-append_right xs ys n a y size a_in))
      ∙ ap (λ z. set (set (xs ++ ys) a z) b x) (sym (get_or-append_right xs ys n b d size b_in))
      ∙ ap (λ z. set (set (xs ++ ys) a (get_or (xs ++ ys) b d)) b z) (sym (get_or-append_right xs ys n a d size a_in))
      ∙ swap_is (xs ++ ys) a b d (omega (arith, a_lt, whole, size, a_in)) (omega (arith, b_lt, whole, size, b_in))

  -- the one in front, the other behind
  pub swap-across : a < n → n ≤ b → b - n < length ys
      → set xs a (get_or ys (b - n) d) ++ set ys (b - n) (get_or xs a d) ≡ swap (xs ++ ys) a b
  swap-across a_in b_in b_lt =
      let a_lt : a < length xs = omega (arith, a_in, size) in
      let x = get_or xs a d in
      let y = get_or ys (b - n) d in
      sym (set-append_right (set xs a y) ys n b x (length-set xs a y ∙ size) b_in)
      ∙ ap (λ l. set l b x) (sym (set-append_left xs ys a y a_lt))
      ∙ ap (λ z. set (set (xs ++ ys) a z) b x) (sym (get_or-append_right xs ys n b d size b_in))
      ∙ ap (λ z. set (set (xs ++ ys) a (get_or (xs ++ ys) b d)) b z) (sym (get_or_append_left xs ys d a a_lt))
      ∙ swap_is (xs ++ ys) a b d (omega (arith, a_lt, whole)) (omega (arith, b_lt, whole, size, b_in))

  -- the one behind, the other in front
  pub swap-across_back : n ≤ a → b < n → a - n < length ys
      → set xs b (get_or ys (a - n) d) ++ set ys (a - n) (get_or xs b d) ≡ swap (xs ++ ys) a b
  swap-across_back a_in b_in a_lt =
      let b_lt : b < length xs = omega (arith, b_in, size) in
      let x = get_or ys (a - n) d in
      let y = get_or xs b d in
      sym (set-append_left xs (set ys (a - n) y) b x b_lt)
      ∙ ap (λ l. set l b x) (sym (set-append_right xs ys n a y size a_in))
      ∙ ap (λ z. set (set (xs ++ ys) a z) b x) (sym (get_or_append_left xs ys d b b_lt))
      ∙ ap (λ z. set (set (xs ++ ys) a (get_or (xs ++ ys) b d)) b z) (sym (get_or-append_right xs ys n a d size a_in))
      ∙ swap_is (xs ++ ys) a b d (omega (arith, a_lt, whole, size, a_in)) (omega (arith, b_lt, whole))

pub swap-front : {X : Type 0} (xs ys : List X) (n a b : ℕ) → length xs ≡ n → a < n → b < n
    → swap xs a b ++ ys ≡ swap (xs ++ ys) a b
swap-front [] ys n a b size a_in b_in = absurd (omega (arith, size, a_in))
swap-front (x ∷ xs) ys n a b size a_in b_in = front (x ∷ xs) ys n a b size x a_in b_in

pub swap-behind : {X : Type 0} (xs ys : List X) (n a b : ℕ) → length xs ≡ n → n ≤ a → n ≤ b
    → a < length (xs ++ ys) → b < length (xs ++ ys) → xs ++ swap ys (a - n) (b - n) ≡ swap (xs ++ ys) a b
swap-behind xs [] n a b size a_in b_in a_lt b_lt =
    let all = length-append xs [] in absurd (omega (arith, size, a_in, a_lt, all))
swap-behind xs (y ∷ ys) n a b size a_in b_in a_lt b_lt =
    let all : length (xs ++ y ∷ ys) ≡ length xs + length (y ∷ ys) = length-append xs (y ∷ ys) in
    behind xs (y ∷ ys) n a b size y a_in b_in (omega (arith, size, a_in, a_lt, all))
    (omega (arith, size, b_in, b_lt, all))
