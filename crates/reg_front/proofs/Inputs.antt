-- How long an input is of which a part was read.
use Rattle.std.proofs.Common.{◌≡◌, ℕ, ◌+◌, ◌-◌, ◌<◌, ◌≤◌, List, ◌++◌, length, take, Option, None, Some, IfSome, ap, ◌∙◌}
use Rattle.std.proofs.Common.{arith, length-append, length-take-le}
use Rattle.std.specs.Io.KnownBytes.{Consumes}

long : (xs front ys : List ℕ) (limit : ℕ) → xs ≡ front ++ ys → limit < length front → limit < length xs
long xs front ys limit e more = let whole : length xs ≡ length front + length ys =
    ap length e ∙ length-append front ys in omega arith

-- an input that has given more bytes than the limit has more
pub longer : (input rest : Option (List ℕ)) (front : List ℕ) (limit : ℕ) → Consumes input rest front
    → limit < length front
    → IfSome input (λ bytes. limit < length bytes)
longer None rest front limit given more = tt
longer (Some xs) None front limit given more = absurd given
longer (Some xs) (Some ys) front limit given more = long xs front ys limit given more

-- what fills a text beyond the limit is longer than it
pub longer_filled : (bytes : List ℕ) (filled count limit : ℕ) → filled + count ≤ length bytes → limit - filled < count
    → limit < length (take (filled + count) bytes)
longer_filled bytes filled count limit fits over = let whole = length-take-le (filled + count) bytes fits in omega arith
