use Rattle.std.proofs.Common.{◌≤◌, arith, ap, length}
use Rattle.reg_base.specs.declared.limits.TheConstants.{MOST_TOUCHED}
use Rattle.reg_rules.proofs.ByIndex.{front-all, front-stand}
use Rattle.reg_rules.proofs.indexed.front.Goals as goal

pub returns-clause-all : goal.returns-clause-all
returns-clause-all c =
    let few : length c.args.accounts.now ≤ MOST_TOUCHED = omega (
      arith,
      c.requires,
      c.as_slice-few.ensures.few,
      ap length c.as_slice-few.ensures.value,
    ) in
    front-all c.args.accounts.now few

pub returns-clause-stand : goal.returns-clause-stand
returns-clause-stand c =
    let few : length c.args.accounts.now ≤ MOST_TOUCHED = omega (
      arith,
      c.requires,
      c.as_slice-few.ensures.few,
      ap length c.as_slice-few.ensures.value,
    ) in
    front-stand c.args.accounts.now few
