-- A region of a day: accounts of its own, and the places of the instructions that are carried out on these alone.
use Rattle.std.specs.Prelude.{◌≡◌, ℕ, zero, suc, ◌+◌, ◌<◌, true, nat_le, List, [], ◌∷◌, filter, slice_get}
use Rattle.std.specs.Prelude.{Contains, Option, None}
use Rattle.std.specs.Option.{option_map, option_map_or}
use Rattle.reg_base.specs.Batch.{BatchValue}
use Rattle.reg_rules.specs.declared.reply.Reply.{Reply}
use Rattle.reg_rules.specs.State.{State, Setting, numbers}
use Rattle.reg_rules.specs.Laws.{AgreeOn, after_step, reply_to}
use Rattle.reg_base.specs.Touches.{touches_place}
use Rattle.reg_book.specs.Book.{directory_of}
use Rattle.reg_book.specs.Day.{DayValue}

-- the accounts after the instruction at this place of a batch, counted from 1; if there is none, they stay
abbrev pub accounts_after : Setting → BatchValue → State → ℕ → State
accounts_after c b s zero = s
accounts_after c b s (suc k) = option_map_or (λ i. after_step c s (b.base + suc k) i) (slice_get b.instructions k) s

-- the reply to it, if there is one
abbrev pub reply_for : Setting → BatchValue → State → ℕ → Option Reply
reply_for c b s zero = None
reply_for c b s (suc k) = option_map (λ i. reply_to c s (b.base + suc k) i) (slice_get b.instructions k)

-- the accounts after the instructions at these places, one after another
abbrev pub accounts_after_all : Setting → BatchValue → State → List ℕ → State
accounts_after_all c b s [] = s
accounts_after_all c b s (place ∷ places) = accounts_after_all c b (accounts_after c b s place) places

-- the replies to them
abbrev pub replies_for : Setting → BatchValue → State → List ℕ → List (Option Reply)
replies_for c b s [] = []
replies_for c b s (place ∷ places) = reply_for c b s place ∷ replies_for c b (accounts_after c b s place) places

-- each place is above the one before it, and the first is above this one
abbrev pub RiseAbove : ℕ → List ℕ → Type 0
RiseAbove low [] = Unit {0}
RiseAbove low (place ∷ places) = (low < place) × RiseAbove place places

-- the places up to this one
abbrev pub up_to : ℕ → List ℕ → List ℕ
up_to j places = filter (λ place. nat_le place j) places

-- the instruction at this place of the day touches the account
abbrev pub Touches : DayValue → ℕ → ℕ → Type 0
Touches day place a = touches_place (directory_of day.book.accounts) day.batch.instructions a place ≡ true

-- accounts of the day's book, and the places of the instructions that touch some of them, in the order of the batch;
-- these instructions touch no other account
pub record IsRegion (day : DayValue) (opening : State) (places : List ℕ) : Type 0 where
  pub of_book : AgreeOn (numbers opening) opening day.book.accounts
  pub rising : RiseAbove 0 places
  pub inside : (place a : ℕ) → Contains places place → Touches day place a → Contains (numbers opening) a
  pub alone : (place a : ℕ) → Contains (numbers opening) a → Touches day place a → Contains places place
