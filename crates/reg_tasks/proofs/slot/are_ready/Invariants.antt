use Rattle.std.proofs.Common.{◌≡◌, drop}
use Rattle.std.specs.List.{list_all}
use Rattle.reg_schedules.specs.Docks.{names_needed}
use Rattle.reg_tasks.specs.Slots.{standing_in, is_there}
use Rattle.reg_tasks.proofs.slot.are_ready.Given as goal

-- what is left answers as all do
abbrev pub invariant-loop-account : goal.invariant-loop-account
invariant-loop-account g l =
    list_all (λ name. is_there (standing_in l.openings l.slots) name)
    (names_needed l.arrows (drop l.account-index l.accounts))
    ≡ list_all (λ name. is_there (standing_in l.openings l.slots) name) (names_needed l.arrows l.accounts)
