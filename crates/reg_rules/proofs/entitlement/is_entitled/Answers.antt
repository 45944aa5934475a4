use Rattle.std.proofs.Common.{◌∙◌, ap, sym, Some}
use Rattle.reg_rules.specs.Entitlements.{is_entitled}
use Rattle.reg_rules.proofs.Administrators.{is-among}
use Rattle.reg_rules.proofs.entitlement.is_entitled.Goals as goal

pub returns-in-Administrators : goal.returns-in-Administrators
returns-in-Administrators c =
    let a = c.args in
    is-among a.rules.now.admins a.user c.is_admin.result c.is_admin.ensures
    ∙ sym (ap (λ who. is_entitled a.rules.now who a.role (Some a.account.now) a.user) c.in-Administrators.is)
