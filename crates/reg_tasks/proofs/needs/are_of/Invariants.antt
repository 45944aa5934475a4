use Rattle.std.proofs.Common.{◌≡◌, take}
use Rattle.reg_rules.specs.State.{numbers}
use Rattle.reg_tasks.specs.Parcels.{values_of}
use Rattle.reg_tasks.proofs.needs.are_of.Given as goal

abbrev pub invariant-loop-index : goal.invariant-loop-index
invariant-loop-index g l = numbers (values_of (take l.index l.parcels)) ≡ take l.index l.accounts
