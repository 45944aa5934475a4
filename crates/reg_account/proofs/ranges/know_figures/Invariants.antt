use Rattle.std.proofs.Common.{ℕ, ◌<◌, get_or}
use Rattle.reg_account.specs.declared.years.Figure.{Figure}
use Rattle.reg_account.specs.Years.{FigureIsInRange}
use Rattle.reg_account.proofs.ranges.know_figures.Given as goal

abbrev pub invariant-loop-figure : goal.invariant-loop-figure
invariant-loop-figure l = (k : ℕ) (d : Figure) → k < l.figure-index → FigureIsInRange (get_or l.figures k d)
