use Rattle.std.proofs.Common.{◌≡◌, ◌++◌, ◌-◌, length, get_or, set, rules, ap, ◌∙◌, arith}
use Rattle.std.proofs.lemmas.List.{length-append}
use Rattle.reg_regions.specs.Lists.{joined_lists}
use Rattle.reg_regions.proofs.Across.{swap-front, swap-behind, swap-across, swap-across_back}
use Rattle.reg_regions.proofs.exchange.+walking.Goals as goal

pub swap_from-returns-then-other-size-clause-joined : goal.swap_from-returns-then-other-size-clause-joined
swap_from-returns-then-other-size-clause-joined g t c =
    let size : length c.args.first.now.items ≡ c.len-size.result = search rules in
    ap (λ l. l ++ joined_lists c.args.later.now) c.swap.ensures.items
    ∙ swap-front c.args.first.now.items (joined_lists c.args.later.now) c.len-size.result c.args.one c.args.other size
    c.if-one-size.true c.if-other-size.true

pub swap_from-returns-else-other-size-clause-joined : goal.swap_from-returns-else-other-size-clause-joined
swap_from-returns-else-other-size-clause-joined g t c =
    let x = c.index_mut.result.now in
    let first = c.args.first.now.items in
    let later = joined_lists c.args.later.now in
    let n = c.len-size.result in
    let size : length first ≡ n = search rules in
    let all = length-append first later in
    ap (λ y. set first c.args.one y ++ joined_lists c.exchange.new.lists) c.exchange.ensures.item
    ∙ ap (λ l. set first c.args.one (get_or later (c.args.other - n) x) ++ l) c.exchange.ensures.joined
    ∙ ap (λ y. set first c.args.one (get_or later (c.args.other - n) x) ++ set later (c.args.other - n) y)
    c.index_mut.ensures.value
    ∙ swap-across first later n c.args.one c.args.other size x c.if-one-size.true c.if-other-size.false
    (let lt = c.requires.other in let le = c.if-other-size.false in omega (arith, size, all, lt, le))

pub swap_from-returns-then-other-size-2-clause-joined : goal.swap_from-returns-then-other-size-2-clause-joined
swap_from-returns-then-other-size-2-clause-joined g t c =
    let x = c.index_mut-then-other-size-2.result.now in
    let first = c.args.first.now.items in
    let later = joined_lists c.args.later.now in
    let n = c.len-size.result in
    let size : length first ≡ n = search rules in
    let all = length-append first later in
    ap (λ y. set first c.args.other y ++ joined_lists c.exchange-then-other-size-2.new.lists)
    c.exchange-then-other-size-2.ensures.item
    ∙ ap (λ l. set first c.args.other (get_or later (c.args.one - n) x) ++ l)
    c.exchange-then-other-size-2.ensures.joined
    ∙ ap (λ y. set first c.args.other (get_or later (c.args.one - n) x) ++ set later (c.args.one - n) y)
    c.index_mut-then-other-size-2.ensures.value
    ∙ swap-across_back first later n c.args.one c.args.other size x c.if-one-size.false c.if-other-size-2.true
    (let lt = c.requires.one in let le = c.if-one-size.false in omega (arith, size, all, lt, le))

pub swap_from-returns-else-other-size-2-clause-joined : goal.swap_from-returns-else-other-size-2-clause-joined
swap_from-returns-else-other-size-2-clause-joined g t c =
    let size : length c.args.first.now.items ≡ c.len-size.result = search rules in
    ap (λ l. c.args.first.now.items ++ l) c.swap_two.ensures.joined
    ∙ swap-behind c.args.first.now.items (joined_lists c.args.later.now) c.len-size.result c.args.one c.args.other size
    c.if-one-size.false c.if-other-size-2.false c.requires.one c.requires.other
