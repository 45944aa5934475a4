-- A text of which the first bytes are filled, and what a call of `read` gives behind them.
use Rattle.std.proofs.Common.{◌≡◌, ℕ, ◌+◌, List, ◌++◌, Option, Result, Ok, Err, IfOk, length, take, drop}
use Rattle.std.proofs.Common.{ap, sym, ◌∙◌, subst, take-add, drop_at}
use Rattle.std.proofs.lemmas.List.{take-append-le}
use Rattle.std.specs.Io.{ReadsAtMost}
use Rattle.std.specs.Io.KnownBytes.{Consumes, ReadConsumes}
use Rattle.std.proofs.KnownBytes.{Consumes-trans}

-- the bytes that a call gave stand behind the front
pub given_behind : {E : Type 0} (a b : Option (List ℕ)) (r : Result ℕ E) (front room rest : List ℕ) (filled : ℕ)
    → length front ≡ filled → ReadsAtMost r room
    → ReadConsumes a b r room → IfOk r (λ n. Consumes a b (take n (drop filled (front ++ (room ++ rest)))))
given_behind a b (Ok n) front room rest filled long fits read =
    subst (Consumes a b) (sym (ap (take n) (drop_at front (room ++ rest) filled long)
    ∙ take-append-le n room rest fits.0)) read.0
given_behind a b (Err e) front room rest filled long fits read = tt

-- xs was filled up to f; zs with more room has the same front, and so has ys, with n bytes more
pub filled_more : (a b c : Option (List ℕ)) (xs ys zs zs' : List ℕ) (f n : ℕ) → take f zs ≡ take f xs → zs' ≡ zs
    → take f ys ≡ take f zs'
    → Consumes a b (take f xs) → Consumes b c (take n (drop f ys)) → Consumes a c (take (f + n) ys)
filled_more a b c xs ys zs zs' f n made same front before more =
    let kept : take f ys ≡ take f xs = front ∙ ap (take f) same ∙ made in
    subst (Consumes a c) (sym (take-add f n ys ∙ ap (λ l. l ++ take n (drop f ys)) kept))
    (Consumes-trans a b c _ _ before more)
