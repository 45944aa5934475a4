use Rattle.std.proofs.Common.{ℕ, ◌<◌, length, rules, sym, ap, subst, ◌∙◌}
use Rattle.std.specs.List.{AllByRecursion}
use Rattle.arrayvec.specs.ArrayVec.{ArrayVec}
use Rattle.reg_book.specs.Indexes.{each_at}
use Rattle.reg_book.proofs.Ranks.{not-ranked, one-ranked}
use Rattle.reg_book.proofs.indexes.rank_all.Goals as goal

pub ranks_at-requires : goal.ranks_at-requires
ranks_at-requires c =
    let within : c.loop-own.own-index < length c.loop-own.indexes = search rules in
    let in_now : c.loop-own.own-index < length c.args.indexes.now = search rules in
    subst (λ (own : ArrayVec ℕ). AllByRecursion (λ p. p < length c.args.ranks.now) own.items) c.own-item.is
    (not-ranked c.args.ranks.now c.args.indexes.now c.loop-own.indexes c.loop-own.own-index c.own-item.result within
    in_now c.own-item.is c.loop-own.invariant c.requires)

pub loop-own-preserved : goal.loop-own-preserved
loop-own-preserved c =
    let within : c.loop-own.own-index < length c.loop-own.indexes = search rules in
    let in_now : c.loop-own.own-index < length c.args.indexes.now = search rules in
    one-ranked c.args.ranks.now c.args.indexes.now c.loop-own.indexes c.loop-own.own-index c.own-item.result
    c.ranks_at.result within in_now c.own-item.is
    (c.ranks_at.ensures ∙ ap (λ (own : ArrayVec ℕ). each_at c.args.ranks.now own.items) (sym c.own-item.is))
    c.loop-own.invariant
