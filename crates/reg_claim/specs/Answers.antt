-- What a claim and the end of the table tell.
use Rattle.std.specs.Prelude.{◌≡◌, ℕ, ◌/◌, ◌≤◌, true, length, All, Contains}
use Rattle.reg_facts.specs.Counting.{times, once}
use Rattle.reg_claim.specs.declared.views.SeatView.{SeatView}
use Rattle.reg_claim.specs.declared.claim_table.Tally.{Tally}
use Rattle.reg_claim.specs.Views.{with_claimed, is_odd}
use Rattle.reg_claim.specs.Claims.{HasNoRepeat}

-- a seat with the view v gets the place, and has then the view w: the place is on its claimed list now and was not
-- before, and the seat has not finished it
pub record GetsPlace (place : ℕ) (v w : SeatView) : Type 0 where
  pub view : w ≡ with_claimed place v
  pub first : ¬ Contains v.claimed place
  pub claimed : Contains w.claimed place
  pub unfinished : ¬ Contains w.finished place

-- what a table of n places had, if the seat with the view v, which had the whole stake, has closed it
pub record IsTallyOf (n : ℕ) (v : SeatView) (tally : Tally) : Type 0 where
  -- as many places are finished as the seat finished; that is no less than it saw
  pub done : tally.done ≡ length v.finished
  pub most : tally.done ≤ n
  pub seen : v.seen / 2 ≤ tally.done
  -- a stop that the seat saw is there
  pub stopped : is_odd v.seen ≡ true → tally.stopped ≡ true
  -- the seat finished no place twice, and none that the table does not have
  pub no_repeat : HasNoRepeat v.finished
  pub within : All (λ p. (1 ≤ p) × (p ≤ n)) v.finished
  -- if as many are finished as there are, each place is, once
  pub all : tally.done ≡ n → (p : ℕ) → times p v.finished ≡ once n p
