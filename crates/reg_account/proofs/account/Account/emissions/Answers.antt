use Rattle.std.proofs.Common.{◌≡◌, ◌≤◌, sym, ap, ◌∙◌, subst}
use Rattle.std.specs.Prelude.{Option, IfSome, ℕ}
use Rattle.reg_base.specs.declared.limits.TheConstants.{MOST_EMISSIONS}
use Rattle.reg_account.specs.Years.{emissions_in}
use Rattle.reg_account.proofs.Figures.{emissions_at_most}
use Rattle.reg_account.proofs.account.Account.emissions.Goals as goal

pub returns-clause-limit : goal.returns-clause-limit
returns-clause-limit c =
    let emissions = c.self.inside.parts.lists.emissions in
    let is : c.find_emissions.result ≡ emissions_in emissions c.args.year =
    c.find_emissions.ensures ∙ ap (λ xs. emissions_in xs c.args.year) c.emissions.ensures in
    subst (λ (o : Option ℕ). IfSome o (λ t. t ≤ MOST_EMISSIONS)) (sym is)
    (emissions_at_most emissions c.args.year c.self.invariant.emissions_fit.each)
