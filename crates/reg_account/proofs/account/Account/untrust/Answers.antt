use Rattle.reg_account.specs.Account.{account_of}
use Rattle.reg_account.proofs.Changes.{changes-keep-limits}
use Rattle.reg_account.proofs.account.Account.untrust.Goals as goal

pub invariant_of-self : goal.invariant_of-self
invariant_of-self c = rw (c.remove_trusted.ensures)
    (changes-keep-limits.untrust (account_of c.self.inside.parts) c.args.other c.self.invariant)
