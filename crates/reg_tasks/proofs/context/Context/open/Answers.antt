use Rattle.std.proofs.Common.{ap, sym, ◌∙◌, Some}
use Rattle.std.specs.Option.{option_copied}
use Rattle.reg_tasks.proofs.Opening.{some_copied, opened}
use Rattle.reg_tasks.proofs.context.Context.open.Goals as goal

pub unwrap-requires : goal.unwrap-requires
unwrap-requires g c = some_copied _ _ c.get.ensures c.requires.known

pub new-requires : goal.new-requires
new-requires g c =
    opened g.N.Naming.day c.args.self.now.book.now c.args.self.now.rules.now c.args.self.now.batch.now c.args.number
    c.in_ok-value.value c.args.self.now.named
    (sym c.get.ensures ∙ ap option_copied c.unwrap.ensures ∙ ap Some (sym c.in_ok-value.ensures))

pub returns : goal.returns
returns g c = record {
  value = sym c.get.ensures ∙ ap option_copied c.unwrap.ensures ∙ ap Some (sym c.in_ok-value.ensures)
      ∙ ap Some (sym c.new.ensures.value);
  after = c.new.ensures.after;
}
