-- What a worker's seat shows of the end of the work.
use Rattle.std.specs.Prelude.{ℕ, ◌/◌, Bool, ◌||◌, nat_le}
use Rattle.reg_claim.specs.declared.views.SeatView.{SeatView}
use Rattle.reg_claim.specs.Views.{is_odd}

-- this count of a claim table, which is twice the number of finished places, and 1 more after a stop, shows that so
-- many places are finished, or that the workers are to leave
abbrev pub shows_end : ℕ → ℕ → Bool
shows_end places count = is_odd count || nat_le places (count / 2)

-- the seat has seen such a count
abbrev pub sees_end : ℕ → SeatView → Bool
sees_end places v = shows_end places v.seen
