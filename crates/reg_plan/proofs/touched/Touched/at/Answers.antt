use Rattle.std.proofs.Common.{◌≡◌, ◌-◌, ◌<◌, ◌∷◌, [], length, get_or, take, drop, ap, ◌∙◌, rules, arith}
use Rattle.std.proofs.lemmas.Grind.{get_or_default_zero}
use Rattle.reg_plan.proofs.Flat.{count_parts, part_at, begin_before, end_within}
use Rattle.reg_plan.proofs.touched.Touched.at.Goals as goal
use Rattle.reg_plan.proofs.touched.Touched.at.Goals.{After-self, After-begin_at}

-- the place is one of those that are kept
within : (c : After-self) → c.args.place - 1 < length c.self.inside.ends.items
within c =
    let count = count_parts c.self.inside.accounts.items 0 c.self.inside.ends.items in
    omega (arith, c.requires.from_one, c.requires.within, ap length c.self.view_is, count)

pub index-end-requires : goal.index-end-requires
index-end-requires c =
    let size : c.self.inside.ends.len ≡ length c.self.inside.ends.items = search rules in
    omega (arith, within c, size)

pub begin_at-requires : goal.begin_at-requires
begin_at-requires c = omega (arith, within (goal.at.begin_at-requires c).After-self, ap length c.deref-2.ensures.value)

-- where the part begins and ends
begins : (c : After-begin_at) → c.begin_at.result ≡ get_or (0 ∷ c.self.inside.ends.items) (c.args.place - 1) 0
begins c = c.begin_at.ensures ∙ ap (λ es. get_or (0 ∷ es) (c.args.place - 1) 0) c.deref-2.ensures.value

ends : (c : After-begin_at) → c.args.place - 1 < length c.self.inside.ends.items
    → c.index-end.result.now ≡ get_or c.self.inside.ends.items (c.args.place - 1) 0
ends c lt = c.index-end.ensures
    ∙ get_or_default_zero c.self.inside.ends.items (c.args.place - 1) c.index-end.result.now lt

pub part-requires-clause-rises : goal.part-requires-clause-rises
part-requires-clause-rises c =
    let lt = within (goal.at.part-requires-clause-rises c).After-self in
    let low = begin_before _ c.self.inside.accounts.items c.self.inside.ends.items
    (c.args.place - 1) c.self.invariant lt in
    omega (arith, low, begins c, ends c lt)

pub part-requires-clause-within : goal.part-requires-clause-within
part-requires-clause-within c =
    let lt = within (goal.at.part-requires-clause-within c).After-self in
    let high = end_within _ c.self.inside.accounts.items c.self.inside.ends.items
    (c.args.place - 1) c.self.invariant lt in
    omega (arith, high, ends c lt, ap length c.deref.ensures.value)

pub returns : goal.returns
returns c =
    let before = (goal.at.returns c).After-begin_at in
    let lt = within (goal.at.returns c).After-self in
    let flat = c.self.inside.accounts.items in
    c.part.ensures
    ∙ ap (λ xs. take (c.index-end.result.now - c.begin_at.result) (drop c.begin_at.result xs)) c.deref.ensures.value
    ∙ ap (λ e. take (e - c.begin_at.result) (drop c.begin_at.result flat)) (ends before lt)
    ∙ ap (λ b. take (get_or c.self.inside.ends.items (c.args.place - 1) 0 - b) (drop b flat)) (begins before)
    ∙ part_at flat 0 c.self.inside.ends.items (c.args.place - 1) lt
    ∙ ap (λ ls. get_or ls (c.args.place - 1) []) c.self.view_is
