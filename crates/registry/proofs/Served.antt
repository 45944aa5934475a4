-- The words that are served are those behind the program's name.
use Rattle.std.proofs.Common.{◌≡◌, ℕ, List, String, map, string_bytes, subst}
use Rattle.std.specs.Global.{Global}
use Rattle.registry.specs.Serving.{Serves, Streams}

pub served : {given taken : List (String Global)} {status : ℕ} {old new : Streams} → taken ≡ given
    → Serves (map string_bytes taken) status old new → Serves (map string_bytes given) status old new
served {status = status} {old = old} {new = new} same serves =
    subst (λ (words : List (String Global)). Serves (map string_bytes words) status old new) same serves
