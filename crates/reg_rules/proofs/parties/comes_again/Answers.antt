use Rattle.std.proofs.Common.{◌∙◌, sym, ap, ◌||◌}
use Rattle.std.specs.Option.{option_to_list}
use Rattle.std.specs.List.{list_any}
use Rattle.std.proofs.Common.{eqb}
use Rattle.reg_rules.proofs.Repeats.{again}
use Rattle.reg_rules.proofs.parties.comes_again.Goals as goal

pub returns-then-receives : goal.returns-then-receives
returns-then-receives c =
    again c.args.account c.args.shares.now c.args.other.now c.receives.result c.receives.ensures c.receives.result
    (c.if-receives.true ∙ sym
    (ap (λ b. b || list_any (λ y. eqb y c.args.account) (option_to_list c.args.other.now)) c.if-receives.true))

pub returns-else-receives : goal.returns-else-receives
returns-else-receives c =
    again c.args.account c.args.shares.now c.args.other.now c.receives.result c.receives.ensures c.is_same.result
    (c.is_same.ensures ∙ sym (ap (λ b. b || list_any (λ y. eqb y c.args.account) (option_to_list c.args.other.now))
    c.if-receives.false))
