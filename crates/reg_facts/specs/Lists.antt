-- Lists one behind the other, and the first numbers.
use Rattle.std.specs.Prelude.{ℕ, zero, suc, List, [], ◌∷◌, ◌++◌}
use Rattle.std.specs.List.{flat_map}
use Rattle.std.specs.declared.vec.Vec.{Vec}
use Rattle.std.specs.Global.{Global}

-- what the lists have, one list after another
abbrev pub joined_lists : {T : Type 0} → List (Vec T Global) → List T
joined_lists lists = flat_map (λ l. l.items) lists

-- the numbers from 0 on, so many
abbrev pub first_numbers : ℕ → List ℕ
first_numbers zero = []
first_numbers (suc n) = first_numbers n ++ n ∷ []
