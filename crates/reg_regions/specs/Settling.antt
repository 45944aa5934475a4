-- What comes of a region whose instructions are carried out.
use Rattle.std.specs.Prelude.{◌≡◌, ℕ, ◌+◌, ◌≤◌, Bool, true, false, List, [], All, Contains, map, length, Some}
use Rattle.reg_base.specs.Batch.{BatchValue}
use Rattle.reg_rules.specs.declared.reply.Reply.{Reply}
use Rattle.reg_rules.specs.State.{State, Setting, numbers}
use Rattle.reg_rules.specs.Laws.{IsReady}
use Rattle.reg_base.specs.Touches.{touches_place}
use Rattle.reg_regions.specs.declared.instruction.Placed.{Placed}
use Rattle.reg_regions.specs.Regions.{accounts_after, accounts_after_all, reply_for, replies_for, RiseAbove}

-- the places of replies
abbrev pub places_in : List Placed → List ℕ
places_in placed = map (λ p. p.place) placed

-- the places that a worker notes of those that it carries out: all, or none
abbrev pub kept : Bool → List ℕ → List ℕ
kept true places = places
kept false places = []

-- the instruction at this place touches none but these accounts
abbrev pub IsInside : Setting → BatchValue → List ℕ → ℕ → Type 0
IsInside c b own place = (a : ℕ) → touches_place c.directory b.instructions a place ≡ true → Contains own a

-- what the instruction at a place made of accounts, and its reply
pub record IsCarriedOut (c : Setting) (b : BatchValue) (place : ℕ) (old new : State) (reply : Reply) : Type 0 where
  pub within : place ≤ length b.instructions
  pub accounts : new ≡ accounts_after c b old place
  pub replied : reply_for c b old place ≡ Some reply
  pub inside : IsInside c b (numbers old) place
  pub ready : IsReady (b.base + place + 1) new

-- what instructions made of the accounts of a region: their places rise, each touches none but these accounts, and each
-- has its reply
pub record IsRun (c : Setting) (b : BatchValue) (old new : State) (replies : List Placed) : Type 0 where
  pub rising : RiseAbove 0 (places_in replies)
  pub within : All (λ place. place ≤ length b.instructions) (places_in replies)
  pub inside : All (IsInside c b (numbers old)) (places_in replies)
  pub accounts : new ≡ accounts_after_all c b old (places_in replies)
  pub replied : replies_for c b old (places_in replies) ≡ map (λ p. Some p.reply) replies
