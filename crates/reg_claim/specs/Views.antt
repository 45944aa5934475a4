-- What a seat knows: its stake, what it claimed, what it finished, and the greatest count that it saw.
use Rattle.std.specs.Prelude.{ℕ, ◌+◌, ◌-◌, ◌%◌, ◌==◌, max, nat_lt, Bool, List, [], ◌∷◌, ◌++◌, filter}
use Rattle.std.specs.List.{flat_map}
use Rattle.reg_claim.specs.declared.views.SeatView.{SeatView}

abbrev pub seat_view : ℕ → List ℕ → List ℕ → ℕ → SeatView
seat_view stake claimed finished seen = record { stake = stake; claimed = claimed; finished = finished; seen = seen }

-- the first seat of a table has all 16 parts of the stake, and has done and seen nothing
abbrev pub fresh : SeatView
fresh = seat_view 16 [] [] 0

-- a seat that was split off has one part, has done nothing, and has seen what the other saw
abbrev pub newcomer : ℕ → SeatView
newcomer seen = seat_view 1 [] [] seen

-- what is left of a view once its seat was joined with another
abbrev pub spent : SeatView
spent = seat_view 0 [] [] 0

-- the view after a place was claimed
abbrev pub with_claimed : ℕ → SeatView → SeatView
with_claimed place v = seat_view v.stake (v.claimed ++ place ∷ []) v.finished v.seen

-- the view after a place was finished
abbrev pub with_finished : ℕ → SeatView → SeatView
with_finished place v = seat_view v.stake v.claimed (v.finished ++ place ∷ []) v.seen

-- the view after a count was seen
abbrev pub with_seen : ℕ → SeatView → SeatView
with_seen c v = seat_view v.stake v.claimed v.finished c

-- the view after one part of the stake was handed to a new seat
abbrev pub with_less : SeatView → SeatView
with_less v = seat_view (v.stake - 1) v.claimed v.finished v.seen

-- the view of two seats that are one now
abbrev pub joined_views : SeatView → SeatView → SeatView
joined_views v w = seat_view (v.stake + w.stake) (v.claimed ++ w.claimed) (v.finished ++ w.finished) (max v.seen w.seen)

-- a count is odd after a stop
abbrev pub is_odd : ℕ → Bool
is_odd c = c % 2 == 1

-- a seat has a stake above 0; a view that a join spent has none
abbrev pub is_seat : SeatView → Bool
is_seat v = nat_lt 0 v.stake

-- the views that count, which are those of seats: views spent by a join count for nothing
abbrev pub seats : List SeatView → List SeatView
seats views = filter is_seat views

-- what all seats claimed, one list behind the other
abbrev pub all_claimed : List SeatView → List ℕ
all_claimed views = flat_map (λ v. v.claimed) (seats views)

-- what all seats finished
abbrev pub all_finished : List SeatView → List ℕ
all_finished views = flat_map (λ v. v.finished) (seats views)
