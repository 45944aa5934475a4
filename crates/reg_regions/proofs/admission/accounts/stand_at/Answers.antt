use Rattle.std.proofs.Common.{◌≡◌, ◌∷◌, [], ◌++◌, ◌<◌, true, length, get_or, take, sym, ap, subst, ◌∙◌, arith}
use Rattle.std.specs.Prelude.{All, slice_index}
use Rattle.std.proofs.lemmas.List.{take_more, take_all, map-append}
use Rattle.std.proofs.lemmas.List.Elements.{All-more, recursion_from_All}
use Rattle.std.proofs.lemmas.Grind.{get_or_default_zero}
use Rattle.reg_rules.specs.State.{numbers}
use Rattle.reg_book.specs.Indexes.{each_at}
use Rattle.reg_regions.proofs.admission.accounts.stand_at.Goals as goal

pub loop-k-preserved : goal.loop-k-preserved
loop-k-preserved c =
    let ns = numbers c.args.accounts.now in
    let k = c.loop-k.k in
    let same : length c.args.indexes.now ≡ length c.args.wanted.now = c.if-indexes-wanted.false in
    let lt : k < length c.args.indexes.now = omega arith in
    let in_wanted : k < length c.args.wanted.now = omega (arith, same, lt) in
    let truth : c.has_number.result ≡ true = c.if-not-has_number.false in
    let here = c.has_number.ensures truth in
    let wanted : c.index-wanted-k.result ≡ get_or c.args.wanted.now k 0 =
    c.index-wanted-k.is ∙ get_or_default_zero c.args.wanted.now k c.index-wanted-k.result in_wanted in
    record {
      within = All-more (λ p. p < length ns) c.args.indexes.now k 0 lt c.loop-k.invariant.within here.0;
      are_there = ap (each_at ns) (take_more c.args.indexes.now k 0 lt)
          ∙ map-append (slice_index ns) (take k c.args.indexes.now) (get_or c.args.indexes.now k 0 ∷ [])
          ∙ ap (λ l. l ++ slice_index ns (get_or c.args.indexes.now k 0) ∷ []) c.loop-k.invariant.are_there
          ∙ ap (λ n. take k c.args.wanted.now ++ n ∷ []) (here.1 ∙ wanted)
          ∙ sym (take_more c.args.wanted.now k 0 in_wanted);
    }

pub returns : goal.returns
returns c truth =
    let ns = numbers c.args.accounts.now in
    let k = c.loop-k.k in
    let same : length c.args.indexes.now ≡ length c.args.wanted.now = c.if-indexes-wanted.false in
    let whole : take k c.args.indexes.now ≡ c.args.indexes.now = take_all k c.args.indexes.now (omega arith) in
    let whole_wanted : take k c.args.wanted.now ≡ c.args.wanted.now =
    take_all k c.args.wanted.now (omega (arith, same)) in
    record {
      within = recursion_from_All (λ p. p < length ns) c.args.indexes.now
          (subst (All (λ p. p < length ns)) whole c.loop-k.invariant.within);
      are_there = ap (each_at ns) (sym whole) ∙ c.loop-k.invariant.are_there ∙ whole_wanted;
    }
