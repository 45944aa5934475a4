use Rattle.std.proofs.Common.{sym, subst, ◌∙◌}
use Rattle.std.specs.Prelude.{MatchOption}
use Rattle.reg_schedules.specs.Pool.{IsSettledDay}
use Rattle.example_uses.proofs.schedules.orders_agree.Goals as goal

pub returns : goal.returns
returns c day plan one other p q planned first second made made_too a =
    let law = c.every_order.ensures in
    let settled : IsSettledDay day p =
    subst (λ m. MatchOption m ⊥ (IsSettledDay day)) made ((law day plan one planned).legal first) in
    let settled_too : IsSettledDay day q =
    subst (λ m. MatchOption m ⊥ (IsSettledDay day)) made_too ((law day plan other planned).legal second) in
    settled.closing a ∙ sym (settled_too.closing a)
