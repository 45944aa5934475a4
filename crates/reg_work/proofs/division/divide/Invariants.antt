use Rattle.std.proofs.Common.{◌≡◌, ◌≤◌, ◌<◌, ◌+◌, ◌-◌, ◌*◌, ◌++◌, All, map, length, vec_len}
use Rattle.reg_facts.specs.Lists.{joined_lists}
use Rattle.reg_work.proofs.division.divide.Given as goal

-- the parts that were made, and the rest, are the whole
abbrev pub invariant-loop-index : goal.invariant-loop-index
invariant-loop-index g l = record {
  made : length l.parts.items ≡ l.index;
  left : vec_len l.rest ≡ (l.count - l.index) * l.least + (l.larger - l.index);
  few : l.larger < l.count;
  whole : joined_lists l.parts.items ++ l.rest.items ≡ l.fn.items.items;
  even : All (λ size. (l.least ≤ size) × (size ≤ l.least + 1)) (map vec_len l.parts.items);
}
