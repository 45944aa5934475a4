use Rattle.std.proofs.Common.{ℕ, List, subst, ap, ◌∙◌}
use Rattle.std.specs.Prelude.{IsTrue, Contains, ◌↔◌}
use Rattle.reg_base.specs.Rules.{RulesValue}
use Rattle.reg_base.proofs.rules.Rules.is_admin.Goals as goal

pub returns : goal.returns
returns c = subst (λ (xs : List ℕ). IsTrue c.has_user.result ↔ Contains xs c.args.user) (c.deref.ensures.value
    ∙ ap (λ (r : RulesValue). r.admins) c.self.view_is) c.has_user.ensures
