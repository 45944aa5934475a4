use Rattle.std.proofs.Common.{◌∙◌, ltb, arith, rules, sym, ap}
use Rattle.std.proofs.lemmas.Bool.{ltb-true, ltb-false}
use Rattle.std.proofs.lemmas.List.Sorted.{IsPartitionPoint-from_clause, IsPartitionedBy-ltb}
use Rattle.reg_base.proofs.DueDays.{copied-get}
use Rattle.reg_base.proofs.Lookups.{at_index, find_at, tested, does_not_fall}
use Rattle.reg_base.proofs.directory.find_by_halving.Goals as goal

pub returns-in_err-entry : goal.returns-in_err-entry
returns-in_err-entry c =
    let xs = c.args.rising.now in
    let q = c.args.number in
    let point = IsPartitionPoint-from_clause (λ e. ltb e.0 q) _ _ c.partition_point-index.ensures.partitioned
    (IsPartitionedBy-ltb (λ e. e.0) xs q (does_not_fall xs c.requires)) (λ a r f' k. search rules) in
    c.from_residual.ensures
    ∙ ap (λ r. at_index q r) (sym c.in_err-entry.was ∙ c.copied.ensures
    ∙ copied-get xs c.partition_point-index.result c.get.result c.get.ensures.lookup)
    ∙ sym (find_at q c.partition_point-index.result xs
    (does_not_fall xs c.requires) c.partition_point-index.ensures.bound
    (λ k d lt. ltb-true _ _ (point.0 k d (omega arith) lt)) (λ k d le lt. ltb-false _ _ (point.1 k d le lt)))

pub returns : goal.returns
returns c =
    let xs = c.args.rising.now in
    let q = c.args.number in
    let point = IsPartitionPoint-from_clause (λ e. ltb e.0 q) _ _ c.partition_point-index.ensures.partitioned
    (IsPartitionedBy-ltb (λ e. e.0) xs q (does_not_fall xs c.requires)) (λ a r f' k. search rules) in
    tested q c.in_ok-entry.entry c.eq.result _ c.then_some.ensures c.eq.ensures
    ∙ ap (λ r. at_index q r) (sym c.in_ok-entry.was ∙ c.copied.ensures
    ∙ copied-get xs c.partition_point-index.result c.get.result c.get.ensures.lookup)
    ∙ sym (find_at q c.partition_point-index.result xs
    (does_not_fall xs c.requires) c.partition_point-index.ensures.bound
    (λ k d lt. ltb-true _ _ (point.0 k d (omega arith) lt)) (λ k d le lt. ltb-false _ _ (point.1 k d le lt)))
