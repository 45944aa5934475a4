use Rattle.std.proofs.Common.{◌≡◌, drop}
use Rattle.reg_base.specs.Rising.{is_rising_from}
use Rattle.reg_account.specs.Years.{figure_years}
use Rattle.reg_account.proofs.faults.have_rising_figure_years.Given as goal

abbrev pub invariant-loop-figure : goal.invariant-loop-figure
invariant-loop-figure l =
    is_rising_from 0 (figure_years l.figures) ≡ is_rising_from l.low (figure_years (drop l.figure-index l.figures))
