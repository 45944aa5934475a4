use Rattle.std.proofs.Common.{◌≡◌, ◌<◌, length, take}
use Rattle.std.specs.Prelude.{All}
use Rattle.reg_rules.specs.State.{numbers}
use Rattle.reg_book.specs.Indexes.{each_at}
use Rattle.reg_regions.proofs.admission.accounts.stand_at.Given as goal

abbrev pub invariant-loop-k : goal.invariant-loop-k
invariant-loop-k l = record {
  within : All (λ p. p < length (numbers l.accounts)) (take l.k l.indexes);
  are_there : each_at (numbers l.accounts) (take l.k l.indexes) ≡ take l.k l.wanted;
}
