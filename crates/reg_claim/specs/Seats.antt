-- What a contract says of a table and its seats.
use Rattle.std.specs.Prelude.{◌≡◌, ℕ, Contains}
use Rattle.atomic_table.specs.Seated.{TableId}
use Rattle.reg_claim.specs.declared.views.SeatView.{SeatView}
use Rattle.reg_claim.specs.declared.seats.Seat.{Seat}
use Rattle.reg_claim.specs.declared.claim_table.ClaimTable.{ClaimTable}

-- what the seat knows
abbrev pub known : Seat → SeatView
known seat = seat.seat.me.0

-- the seat has claimed the place, and has not finished it
abbrev pub IsToFinish : ℕ → SeatView → Type 0
IsToFinish place v = Contains v.claimed place × ¬ Contains v.finished place

-- the table that the seat is of
abbrev pub seat_table : Seat → TableId
seat_table seat = seat.seat.table_id

abbrev pub table_id : ClaimTable → TableId
table_id table = table.table.shared.table_id

-- how many places the table has
abbrev pub places : ClaimTable → ℕ
places table = table.table.shared.key

abbrev pub IsSeatOf : ClaimTable → Seat → Type 0
IsSeatOf table seat = seat_table seat ≡ table_id table
