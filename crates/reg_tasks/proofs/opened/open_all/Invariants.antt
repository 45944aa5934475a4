use Rattle.std.proofs.Common.{◌≡◌, Some, take, map}
use Rattle.reg_rules.specs.State.{account}
use Rattle.reg_tasks.specs.Parcels.{names_of}
use Rattle.reg_tasks.proofs.opened.open_all.Given as goal

-- the first accounts are opened
abbrev pub invariant-loop-account : goal.invariant-loop-account
invariant-loop-account g l = record {
  names : names_of l.parcels.items ≡ map (λ a. (a, 0)) (take l.account-index l.accounts);
  values : map (λ p. Some p.value) l.parcels.items
      ≡ map (λ a. account l.context.book.now.accounts a) (take l.account-index l.accounts);
}
