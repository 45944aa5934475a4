-- Parts of a list.
use Rattle.std.specs.Prelude.{ℕ, ◌≤◌, ◌+◌, List, All}

-- sizes that differ by at most one: each is this one, or one more
abbrev pub AreEven : List ℕ → Type 0
AreEven sizes = (least : ℕ) × All (λ size. (least ≤ size) × (size ≤ least + 1)) sizes
