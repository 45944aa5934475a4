use Rattle.std.proofs.Common.{◌≡◌, sym, ap, ◌∙◌, subst}
use Rattle.std.specs.Prelude.{Option, IfSome, ℤ}
use Rattle.reg_account.specs.Years.{FigureFits, figure_in}
use Rattle.reg_account.proofs.Figures.{figure_fits_in}
use Rattle.reg_account.proofs.account.Account.determined.Goals as goal

pub returns-clause-limit : goal.returns-clause-limit
returns-clause-limit c =
    let figures = c.self.inside.parts.lists.figures in
    let is : c.find_figure.result ≡ figure_in figures c.args.year =
    c.find_figure.ensures ∙ ap (λ xs. figure_in xs c.args.year) c.figures.ensures in
    subst (λ (o : Option ℤ). IfSome o FigureFits) (sym is)
    (figure_fits_in figures c.args.year c.self.invariant.figures_fit.each)
