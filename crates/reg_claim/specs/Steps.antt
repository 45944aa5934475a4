-- The six kinds of step: what each tells its seat. Splitting and joining seats changes their views as `with_less`,
-- `newcomer` and `joined_views` of Views say. The other four find a number in a word:
use Rattle.std.specs.Prelude.{bit_or, ◌≡◌, ◌≢◌, ℕ, ◌+◌, ◌/◌, ◌^◌, ◌≤◌, ◌<◌, true, length, Contains}
use Rattle.atomic_table.specs.Table.{Me, Step}
use Rattle.reg_claim.specs.declared.views.SeatView.{SeatView}
use Rattle.reg_claim.specs.Views.{with_claimed, with_finished, with_seen, is_odd}

-- what a seat may rely on of a count c that it finds: it is no less than what the seat has seen, a stop stays, it
-- counts at least what the seat itself finished, and the number of places that it counts is below 2^32
pub record IsLater (v : SeatView) (c : ℕ) : Type 0 where
  pub seen : v.seen ≤ c
  pub stopped : is_odd v.seen ≡ true → is_odd c ≡ true
  pub own : length v.finished ≤ c / 2
  pub small : c / 2 < 2 ^ 32

-- the same of two views of one seat, before a step and after it
pub record SeesLater (v w : SeatView) : Type 0 where
  pub seen : v.seen ≤ w.seen
  pub stopped : is_odd v.seen ≡ true → is_odd w.seen ≡ true
  pub own : length w.finished ≤ w.seen / 2

-- what the table keeps of a seat: its view, and the slots that it holds, of which there are none here
abbrev pub Known : Type 0
Known = Me (Unit {0}) SeatView

-- claim: a swap of a place's word. If it found 0, the place is the seat's now, and it was not before. Else the seat
-- knows no more; and if it has the whole stake, it claimed the place itself
abbrev pub ClaimStep : Step (Unit {0}) → Known → ℕ → Known → Type 0
ClaimStep step m found m' =
    (m'.1 ≡ m.1)
    × (found ≡ 0 → (m'.0 ≡ with_claimed step.word m.0) × ¬ Contains m.0.claimed step.word
    × ¬ Contains m.0.finished step.word)
    × (found ≢ 0 → (m'.0 ≡ m.0) × (m.0.stake ≡ 16 → Contains m.0.claimed step.word))

-- finish: an addition of 2 to the count
abbrev pub FinishStep : ℕ → Known → ℕ → Known → Type 0
FinishStep place m found m' = (m'.1 ≡ m.1) × (m'.0 ≡ with_seen (found + 2) (with_finished place m.0))
    × IsLater m.0 found × IsLater m'.0 (found + 2)

-- stop: a bitwise or of 1 into the count
abbrev pub StopStep : Known → ℕ → Known → Type 0
StopStep m found m' = (m'.1 ≡ m.1) × (m'.0 ≡ with_seen (bit_or found 1) m.0) × IsLater m.0 (bit_or found 1)
    × (is_odd (bit_or found 1) ≡ true)

-- look: a load of the count
abbrev pub LookStep : Known → ℕ → Known → Type 0
LookStep m found m' = (m'.1 ≡ m.1) × (m'.0 ≡ with_seen found m.0) × IsLater m.0 found
