use Rattle.std.proofs.Common.{◌≡◌, drop}
use Rattle.std.specs.List.{list_any, list_all}
use Rattle.reg_schedules.specs.Docks.{is_name, names_needed}
use Rattle.reg_tasks.specs.Parcels.{names_of}
use Rattle.reg_tasks.proofs.needs.has_each.Given as goal

-- what is left answers as all do
abbrev pub invariant-loop-account : goal.invariant-loop-account
invariant-loop-account g l =
    list_all (λ w. list_any (λ n. is_name n w) (names_of l.parcels))
    (names_needed l.arrows (drop l.account-index l.accounts))
    ≡ list_all (λ w. list_any (λ n. is_name n w) (names_of l.parcels)) (names_needed l.arrows l.accounts)
