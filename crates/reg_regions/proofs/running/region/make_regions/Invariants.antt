use Rattle.std.proofs.Common.{◌≡◌, ◌+◌, map, drop, length, vec_len}
use Rattle.reg_base.specs.Rising.{count_up}
use Rattle.reg_regions.specs.Stealing.{region_openings}
use Rattle.reg_regions.proofs.running.region.make_regions.Given as goal

-- what is left are the lists from the next number on
abbrev pub invariant-loop-accounts : goal.invariant-loop-accounts
invariant-loop-accounts g l = record {
  can_go : (goal.iterator-loop-accounts g).can_next l.accounts-iterator;
  ends : (goal.iterator-loop-accounts g).is_finite l.accounts-iterator;
  whole : l.number + length l.accounts-iterator.rest.items ≡ vec_len l.fn.lists;
  as_many : length l.deals.rest.items ≡ length l.accounts-iterator.rest.items;
  left : region_openings l.accounts-iterator.rest.items ≡ drop l.number g.C.Cutting.openings;
  deals : l.deals.rest.items ≡ drop l.number g.C.Cutting.deals;
  numbers : map (λ r. r.number) l.regions.items ≡ count_up 1 l.number;
}
