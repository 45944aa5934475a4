use Rattle.std.proofs.Common.{sym, subst}
use Rattle.reg_base.specs.Numbers.{IsAccountNo, IsDayNo}
use Rattle.reg_account.specs.Account.{account_of, CanTrust}
use Rattle.reg_account.proofs.Changes.{changes-keep-limits}
use Rattle.reg_account.proofs.account.Account.trust.Goals as goal

pub invariant_of-self-2 : goal.invariant_of-self-2
invariant_of-self-2 c =
    rw (c.in_ok-put_trusted.ensures.ok)
    (changes-keep-limits.trust (account_of c.self.inside.parts)
    (record { account = c.args.other; effective = c.args.effective }) c.self.invariant
    (subst CanTrust (sym c.self.view_is) c.requires)
    (record {
      number = subst IsAccountNo c.get.ensures.value c.get.ensures.range;
      day = subst IsDayNo c.get-2.ensures.value c.get-2.ensures.range;
    }))
