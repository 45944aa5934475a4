use Rattle.std.proofs.Common.{subst}
use mir.Syntax.{w64}
use Rattle.std.proofs.lemmas.Int.{to_z-of_z}
use Rattle.reg_base.specs.Numbers.{IsYearNo}
use Rattle.reg_account.specs.Account.{account_of}
use Rattle.reg_account.proofs.Changes.{changes-keep-limits}
use Rattle.reg_account.proofs.account.Account.determine.Goals as goal

pub invariant_of-self-2 : goal.invariant_of-self-2
invariant_of-self-2 c =
    rw (c.in_ok-put_figure.ensures.ok, to_z-of_z w64 c.args.tonnes c.ranges.tonnes)
    (changes-keep-limits.determine (account_of c.self.inside.parts)
    (record { year = c.args.year; tonnes = c.args.tonnes }) c.self.invariant c.requires
    (subst IsYearNo c.get.ensures.value c.get.ensures.range))
