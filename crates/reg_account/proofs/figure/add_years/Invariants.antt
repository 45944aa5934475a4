use Rattle.std.proofs.Common.{◌≡◌, ◌-◌, ◌*◌, ◌≤◌}
use Rattle.reg_base.specs.declared.limits.TheConstants.{MOST_EMISSIONS}
use Rattle.reg_base.specs.Rising.{count_up}
use Rattle.reg_account.specs.Figure.{emitted_or_missing}
use Rattle.reg_account.proofs.Figures.{plus}
use Rattle.reg_account.proofs.figure.add_years.Given as goal

abbrev pub invariant-loop-number : goal.invariant-loop-number
invariant-loop-number l = record {
  so_far : plus l.sum (emitted_or_missing l.account (count_up l.number (l.number-end - l.number)))
      ≡ emitted_or_missing l.account (count_up l.first (l.number-end - l.first));
  bound : l.sum ≤ (l.number - l.first) * MOST_EMISSIONS;
  from_first : l.first ≤ l.number;
}
