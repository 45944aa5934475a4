use Rattle.std.proofs.Common.{ℕ, ◌<◌, ◌≤◌, [], length, take, get_or}
use Rattle.std.specs.Prelude.{All}
use Rattle.reg_rules.specs.State.{numbers}
use Rattle.reg_book.specs.Indexes.{index_lists}
use Rattle.reg_regions.specs.Homes.{IsHome}
use Rattle.reg_regions.specs.Regions.{RiseAbove}
use Rattle.reg_regions.proofs.admission.accounts.are_home.Given as goal

abbrev pub invariant-loop-index : goal.invariant-loop-index
invariant-loop-index l =
    let setting = l.setting in
    record {
      rising : RiseAbove 0 (take l.index l.places);
      low : All (λ p. p ≤ l.last) (take l.index l.places);
      each : (k : ℕ) → k < l.index
          → IsHome setting l.batch (numbers l.accounts) (get_or l.places k 0) (get_or (index_lists l.indexes) k []);
      as_many : l.index ≤ length l.indexes;
    }
