use Rattle.std.proofs.Common.{◌<◌, length, rules, sym, subst}
use Rattle.std.specs.List.{AllByRecursion}
use Rattle.reg_book.proofs.Ranks.{each-within}
use Rattle.reg_book.proofs.touched.mark_all.Goals as goal

pub mark-requires : goal.mark-requires
mark-requires c =
    let within : c.loop-own.own-index < length c.args.indexes.now = search rules in
    subst (λ size. AllByRecursion (λ p. p < size) c.own-item.result.items) (sym c.loop-own.invariant.size)
    (each-within (length c.args.marks.now) c.args.indexes.now c.loop-own.own-index c.own-item.result c.requires within
    c.own-item.is)
