-- Lists of accounts, one behind the other.
use Rattle.std.specs.Prelude.{ℕ, List, map, length}
use Rattle.std.specs.declared.vec.Vec.{Vec}
use Rattle.std.proofs.Common.{Global}
pub use Rattle.reg_facts.specs.Lists.{joined_lists}

-- how much each has
abbrev pub sizes_of : {T : Type 0} → List (Vec T Global) → List ℕ
sizes_of lists = map (λ l. length l.items) lists
