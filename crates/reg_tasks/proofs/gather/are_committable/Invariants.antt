use Rattle.std.proofs.Common.{◌↔◌, drop}
use Rattle.std.specs.List.{AllByRecursion}
use Rattle.reg_tasks.specs.Gathering.{IsCommittable}
use Rattle.reg_tasks.proofs.gather.are_committable.Given as goal

-- what is left answers as all do
abbrev pub invariant-loop-account : goal.invariant-loop-account
invariant-loop-account l = AllByRecursion (IsCommittable l.directory l.next) (drop l.account-index l.accounts)
    ↔ AllByRecursion (IsCommittable l.directory l.next) l.accounts
