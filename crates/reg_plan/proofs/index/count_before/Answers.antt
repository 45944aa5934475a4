use Rattle.std.proofs.Common.{ltb, rules}
use Rattle.std.proofs.lemmas.List.Sorted.{IsPartitionPoint-from_clause, IsPartitionedBy-ltb}
use Rattle.reg_plan.specs.Ends.{end_at}
use Rattle.reg_plan.specs.declared.arrow.Arrow.{Arrow}
use Rattle.reg_plan.proofs.Slices.{as_numbers}
use Rattle.reg_plan.proofs.index.count_before.Goals as goal

pub returns-clause-before : goal.returns-clause-before
returns-clause-before c =
    let n = end_at c.args.end in
    let arrows = c.args.arrows.now in
    let place = c.args.place in
    as_numbers n place arrows c.partition_point.result
    (IsPartitionPoint-from_clause (λ (w : Arrow). ltb (n w) place) _ _ c.partition_point.ensures.partitioned
    (IsPartitionedBy-ltb n arrows place c.requires) (λ a r q k. search rules))
