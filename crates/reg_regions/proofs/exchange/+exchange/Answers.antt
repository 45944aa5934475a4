use Rattle.std.proofs.Common.{◌≡◌, ◌++◌, ◌<◌, ◌≤◌, ◌∷◌, length, rules, slice_set, sym, ap, ◌∙◌}
use Rattle.std.proofs.lemmas.List.{set-append_left, set-append_right}
use Rattle.reg_regions.specs.Lists.{joined_lists}
use Rattle.reg_regions.proofs.exchange.+exchange.Goals as goal

pub returns-then-index-size-clause-joined : goal.returns-then-index-size-clause-joined
returns-then-index-size-clause-joined g t c =
    let behind = joined_lists c.in-Some.later.now in
    let whole : c.args.lists.now ≡ c.in-Some.first.now ∷ c.in-Some.later.now = search rules in
    let lt : c.args.index < length c.in-Some.first.now.items = search rules in
    ap (λ l. l ++ behind) c.exchange_here.ensures.list
    ∙ sym (set-append_left c.in-Some.first.now.items behind c.args.index c.args.item.now lt)
    ∙ ap (λ ls. slice_set (joined_lists ls) c.args.index c.args.item.now) (sym whole)

pub returns-else-index-size-clause-joined : goal.returns-else-index-size-clause-joined
returns-else-index-size-clause-joined g t c =
    let whole : c.args.lists.now ≡ c.in-Some.first.now ∷ c.in-Some.later.now = search rules in
    let size : length c.in-Some.first.now.items ≡ c.len-size.result = search rules in
    let le : c.len-size.result ≤ c.args.index = search rules in
    ap (λ l. c.in-Some.first.now.items ++ l) c.exchange.ensures.joined
    ∙ sym (set-append_right c.in-Some.first.now.items (joined_lists c.in-Some.later.now) c.len-size.result c.args.index
    c.args.item.now size le)
    ∙ ap (λ ls. slice_set (joined_lists ls) c.args.index c.args.item.now) (sym whole)
