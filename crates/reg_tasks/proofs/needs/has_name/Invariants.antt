use Rattle.std.proofs.Common.{◌≡◌, drop}
use Rattle.std.specs.List.{list_any}
use Rattle.reg_schedules.specs.Docks.{is_name}
use Rattle.reg_tasks.specs.Parcels.{names_of}
use Rattle.reg_tasks.proofs.needs.has_name.Given as goal

-- what is left answers as all do
abbrev pub invariant-loop-parcel : goal.invariant-loop-parcel
invariant-loop-parcel g l = list_any (λ n. is_name n (l.account, l.after)) (names_of (drop l.parcel-index l.parcels))
    ≡ list_any (λ n. is_name n (l.account, l.after)) (names_of l.parcels)
