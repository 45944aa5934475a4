use Rattle.std.proofs.Common.{◌≡◌, length, sym, ap, ◌∙◌, rules}
use Rattle.reg_plan.proofs.Flat.{count_parts}
use Rattle.reg_plan.proofs.touched.Touched.len.Goals as goal

pub returns : goal.returns
returns c =
    let size : c.len.result ≡ length c.self.inside.ends.items = search rules in
    size ∙ sym (count_parts c.self.inside.accounts.items 0 c.self.inside.ends.items) ∙ ap length c.self.view_is
