use Rattle.std.proofs.Common.{subst}
use Rattle.reg_base.specs.Numbers.{IsYearNo}
use Rattle.reg_account.specs.Account.{account_of}
use Rattle.reg_account.proofs.Changes.{changes-keep-limits}
use Rattle.reg_account.proofs.account.Account.set_emissions.Goals as goal

pub invariant_of-self-2 : goal.invariant_of-self-2
invariant_of-self-2 c =
    rw (c.in_ok-put_emission.ensures.ok)
    (changes-keep-limits.set_emissions (account_of c.self.inside.parts)
    (record { year = c.args.year; tonnes = c.args.tonnes }) c.self.invariant c.requires
    (subst IsYearNo c.get.ensures.value c.get.ensures.range))
