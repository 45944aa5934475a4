-- What comes of accounts that are dealt out to regions.
use Rattle.std.specs.Prelude.{◌≡◌, ℕ, suc, List, All, Contains, Some, length, slice_get}
use Rattle.std.specs.declared.vec.IntoIter.{IntoIter}
use Rattle.std.specs.declared.vec.Vec.{Vec}
use Rattle.std.proofs.Common.{Global}
use Rattle.reg_base.specs.Batch.{BatchValue}
use Rattle.reg_account.specs.Account.{AccountValue}
use Rattle.reg_facts.specs.Counting.{times, once}
use Rattle.reg_rules.specs.declared.reply.Reply.{Reply}
use Rattle.reg_rules.specs.State.{State, Setting}
use Rattle.reg_advice.specs.declared.dealing.Deal.{Deal}
use Rattle.reg_advice.specs.declared.dealing.Dealing.{Dealing}
use Rattle.reg_regions.specs.declared.instruction.Placed.{Placed}
use Rattle.reg_regions.specs.Days.{Run, all_opening, all_afterwards, all_replies, AreRuns}
use Rattle.reg_regions.specs.Homes.{AreAllHome, dealt_places}
use Rattle.reg_regions.specs.Lists.{joined_lists}
use Rattle.reg_regions.specs.Settling.{places_in}
use Rattle.reg_regions.specs.Swaps.{IsSwapWithin, exchanged, exchanged_back}
use Rattle.reg_advice.specs.declared.dealing.Swap.{Swap}

-- the accounts were cut into regions, and this is what came of these, one after another
pub record AreDealt (c : Setting) (b : BatchValue) (old new : State) (replies : List Placed) : Type 0 where
  pub openings : List State
  pub runs : List Run
  pub cut : all_opening openings ≡ old
  pub joined : all_afterwards runs ≡ new
  pub told : all_replies runs ≡ replies
  pub are : AreRuns c b openings runs

-- each place of the batch is in one region, once
abbrev pub AreDealtOnce : BatchValue → List Deal → Type 0
AreDealtOnce b deals = (place : ℕ) → times place (dealt_places deals) ≡ once (length b.instructions) place

-- accounts were swapped, so that those of each region stand where it says, and each place is in one region, once
pub record IsAdmitted (c : Setting) (b : BatchValue) (d : Dealing) (old : State) (new : List (Vec AccountValue Global))
    : Type 0 where
  pub within : All (IsSwapWithin (length old)) d.swaps.items
  pub swapped : joined_lists new ≡ exchanged d.swaps.items old
  pub home : AreAllHome c b new d.deals.items
  pub each_once : AreDealtOnce b d.deals.items

-- for each of so many places there is one of these replies, which is the one to its instruction
pub record AreInPlaces (count : ℕ) (told : List Placed) (replies : List Reply) : Type 0 where
  pub as_many : length replies ≡ count
  pub each : (k : ℕ) (r : Reply) → slice_get replies k ≡ Some r → Contains told (record { place = suc k; reply = r })

-- what is left of each region is among these replies
abbrev pub AreLeftOf : List Placed → List (IntoIter Placed Global) → Type 0
AreLeftOf told left = All (λ own. All (Contains told) own.rest.items) left

-- accounts were settled region by region, each place of the batch once and no other, and the replies stand at
-- their places
pub record AreSettledOnce (c : Setting) (b : BatchValue) (old new : State) (replies : List Reply) : Type 0 where
  pub told : List Placed
  pub dealt : AreDealt c b old new told
  pub each_once : (place : ℕ) → times place (places_in told) ≡ once (length b.instructions) place
  pub in_places : AreInPlaces (length b.instructions) told replies

-- accounts were swapped, settled so, and swapped back
pub record AreTurned (c : Setting) (b : BatchValue) (old new : State) (replies : List Reply) : Type 0 where
  pub swaps : List Swap
  pub within : All (IsSwapWithin (length old)) swaps
  pub after : State
  pub settled : AreSettledOnce c b (exchanged swaps old) after replies
  pub back : new ≡ exchanged_back swaps after
