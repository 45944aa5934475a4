-- Numbers counted up, and one more.
use Rattle.std.proofs.Common.{◌≡◌, ℕ, zero, suc, ◌+◌, [], ◌∷◌, ◌++◌, ap, ◌∙◌, arith}
use Rattle.reg_base.specs.Rising.{count_up}

count-on : (first n : ℕ) → count_up first (suc n) ≡ count_up first n ++ (first + n) ∷ []
count-on first zero = let same : first ≡ first + 0 = omega arith in ap (λ m. m ∷ []) same
count-on first (suc n) =
    let same : first + 1 + n ≡ first + suc n = omega arith in
    ap (λ ns. first ∷ ns) (count-on (first + 1) n)
    ∙ ap (λ m. first ∷ (count_up (first + 1) n ++ m ∷ [])) same

pub count-next : (n : ℕ) → count_up 1 (n + 1) ≡ count_up 1 n ++ (n + 1) ∷ []
count-next n =
    let next : n + 1 ≡ suc n = omega arith in
    let last : 1 + n ≡ n + 1 = omega arith in
    ap (count_up 1) next ∙ count-on 1 n ∙ ap (λ m. count_up 1 n ++ m ∷ []) last
