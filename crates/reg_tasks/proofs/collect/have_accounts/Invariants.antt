use Rattle.std.proofs.Common.{◌≡◌, drop}
use Rattle.reg_tasks.specs.Gathering.{have_accounts}
use Rattle.reg_tasks.specs.LastParcels.{parcels_in}
use Rattle.reg_tasks.specs.Parcels.{names_of}
use Rattle.reg_tasks.specs.Slots.{opened_accounts}
use Rattle.reg_tasks.proofs.collect.have_accounts.Given as goal

-- what is left answers as all do
abbrev pub invariant-loop-index : goal.invariant-loop-index
invariant-loop-index g l =
    have_accounts (opened_accounts (drop l.index l.context.plan.openings))
    (names_of (parcels_in (drop l.index l.parcels)))
    ≡ have_accounts (opened_accounts l.context.plan.openings) (names_of (parcels_in l.parcels))
