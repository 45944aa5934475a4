use Rattle.std.proofs.Common.{◌≡◌, ℕ, drop}
use Rattle.std.specs.List.{list_all}
use Rattle.reg_base.specs.Footprint.{is_among}
use Rattle.reg_tasks.specs.Parcels.{names_of}
use Rattle.reg_tasks.specs.Slots.{opened_accounts}
use Rattle.reg_tasks.proofs.slot.have_slots.Given as goal

-- what is left answers as all do
abbrev pub invariant-loop-parcel : goal.invariant-loop-parcel
invariant-loop-parcel g l =
    list_all (λ (n : ℕ × ℕ). is_among (opened_accounts l.openings) n.0) (names_of (drop l.parcel-index l.parcels))
    ≡ list_all (λ (n : ℕ × ℕ). is_among (opened_accounts l.openings) n.0) (names_of l.parcels)
