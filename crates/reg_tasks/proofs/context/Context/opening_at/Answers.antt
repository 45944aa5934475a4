use Rattle.std.proofs.Common.{◌≡◌, true, get_or, sym, ap, subst, ◌∙◌}
use Rattle.std.specs.Prelude.{is_some}
use Rattle.reg_rules.specs.State.{account}
use Rattle.reg_tasks.specs.Contexts.{the_day}
use Rattle.reg_tasks.proofs.Opening.{all_known}
use Rattle.reg_tasks.proofs.context.Context.opening_at.Goals as goal

pub open-requires : goal.open-requires
open-requires g c =
    let index = c.args.index in
    let a = c.index-touched_at-index.result in
    record {
      known = subst (λ b. is_some (account c.args.self.now.book.now.accounts b) ≡ true)
          (ap (λ touched. get_or touched index a) (sym c.touched_at.ensures.value) ∙ sym c.index-touched_at-index.is)
          (all_known c.each_footprint_is_sound.ensures (the_day c.args.self.now) c.args.place index a c.requires.there);
    }
