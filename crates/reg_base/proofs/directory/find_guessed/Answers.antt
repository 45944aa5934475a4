use Rattle.std.proofs.Common.{◌∙◌, sym}
use Rattle.reg_base.proofs.DueDays.{copied-get}
use Rattle.reg_base.proofs.Lookups.{guessed}
use Rattle.reg_base.proofs.directory.find_guessed.Goals as goal

pub returns : goal.returns
returns c =
    guessed c.args.number c.in_ok-index.index c.args.rising.now c.in_ok-entry.entry c.eq.result c.then_some.result
    c.requires
    (sym (copied-get c.args.rising.now c.in_ok-index.index c.get.result c.get.ensures.lookup) ∙ sym c.copied.ensures
    ∙ c.in_ok-entry.was) c.eq.ensures c.then_some.ensures
