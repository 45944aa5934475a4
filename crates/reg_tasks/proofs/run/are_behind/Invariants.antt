use Rattle.std.proofs.Common.{◌≡◌, drop}
use Rattle.std.specs.Prelude.{not}
use Rattle.std.specs.List.{list_all}
use Rattle.reg_book.specs.Book.{has_row_ahead}
use Rattle.reg_tasks.specs.Parcels.{values_of}
use Rattle.reg_tasks.proofs.run.are_behind.Given as goal

-- what is left answers as all do
abbrev pub invariant-loop-parcel : goal.invariant-loop-parcel
invariant-loop-parcel g l =
    list_all (λ v. not (has_row_ahead l.number v)) (values_of (drop l.parcel-index l.parcels))
    ≡ list_all (λ v. not (has_row_ahead l.number v)) (values_of l.parcels)
