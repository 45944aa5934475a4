use Rattle.std.proofs.Common.{◌≡◌, ℕ, ◌++◌, ◌+◌, ◌≤◌, nat_eq, map, drop, length, vec_len, vec_capacity, true, Some}
use Rattle.std.proofs.Common.{None, cond}
use Rattle.std.specs.Prelude.{is_some}
use Rattle.std.specs.List.{IsDistinct, list_all}
use Rattle.reg_base.specs.Footprint.{is_among}
use Rattle.reg_tasks.specs.Parcels.{names_of}
use Rattle.reg_tasks.specs.Slots.{standing_in}
use Rattle.reg_tasks.proofs.slot.take_parcels.Given as goal

-- what was taken, and what is left to take, are the whole
abbrev pub invariant-loop-account : goal.invariant-loop-account
invariant-loop-account g l = record {
  size : length l.slots ≡ length l.openings;
  others : IsDistinct nat_eq (drop l.account-index l.accounts);
  there : list_all (λ a. is_some (standing_in l.openings l.slots a)) (drop l.account-index l.accounts) ≡ true;
  room : vec_len l.parcels + length (drop l.account-index l.accounts) ≤ vec_capacity l.parcels;
  names : map Some (names_of l.parcels.items) ++ map (standing_in l.openings l.slots) (drop l.account-index l.accounts)
      ≡ map (standing_in l.openings l.initial.slots) l.accounts;
  left : (b : ℕ) → cond (is_among (drop l.account-index l.accounts) b) None (standing_in l.openings l.slots b)
      ≡ cond (is_among l.accounts b) None (standing_in l.openings l.initial.slots b);
}
