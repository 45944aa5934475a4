use mir.Syntax.{w64}
use mir.Val.{SFits}
use Rattle.std.proofs.Common.{rules, sym, ap, ◌∙◌, subst}
use Rattle.std.proofs.lemmas.Int.{to_z-of_z}
use Rattle.reg_account.specs.Corrections.{CorrectionFits, factor_in}
use Rattle.reg_account.proofs.Factors.{factor_fits_in}
use Rattle.reg_account.proofs.account.Account.correction.Goals as goal

pub returns-clause-limits : goal.returns-clause-limits
returns-clause-limits c =
    let read : SFits w64 c.find_factor.result = search rules in
    let is = to_z-of_z w64 c.find_factor.result read ∙ c.find_factor.ensures
    ∙ ap (λ xs. factor_in xs c.args.period) c.corrections.ensures in
    subst CorrectionFits (sym is)
    (factor_fits_in c.self.inside.parts.lists.corrections c.args.period c.self.invariant.corrections_fit.each)
