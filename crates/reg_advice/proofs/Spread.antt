-- Accounts that rise through lists rise in each.
use Rattle.std.proofs.Common.{◌≡◌, ℕ, zero, suc, ◌<◌, List, [], ◌∷◌, length, get_or, Vec, Global}
use Rattle.std.proofs.Common.{sym, subst, arith}
use Rattle.std.proofs.lemmas.List.{map-append}
use Rattle.reg_base.specs.Rising.{IsRising}
use Rattle.reg_base.proofs.lemmas.Rising.{rising-right, rising-left}
use Rattle.reg_account.specs.Account.{AccountValue}
use Rattle.reg_rules.specs.State.{numbers}
use Rattle.reg_facts.specs.Lists.{joined_lists}

pub rising-each : (lists : List (Vec AccountValue Global)) (k : ℕ) (l : Vec AccountValue Global) → k < length lists
    → l ≡ get_or lists k l → IsRising (numbers (joined_lists lists)) → IsRising (numbers l.items)
rising-each [] k l lt is rising = absurd (omega (arith, lt))
rising-each (f ∷ lists) zero l lt is rising =
    subst (λ (v : Vec AccountValue Global). IsRising (numbers v.items)) (sym is)
    (rising-left (numbers f.items) (numbers (joined_lists lists))
    (subst IsRising (map-append (λ (v : AccountValue). v.number) f.items (joined_lists lists)) rising))
rising-each (f ∷ lists) (suc k) l lt is rising =
    rising-each lists k l (omega (arith, lt)) is
    (rising-right (numbers f.items) (numbers (joined_lists lists))
    (subst IsRising (map-append (λ (v : AccountValue). v.number) f.items (joined_lists lists)) rising))
