use Rattle.std.proofs.Common.{sym, ap, ◌∙◌}
use Rattle.std.specs.Option.{option_map}
use Rattle.reg_tasks.specs.Slots.{name_of, is_that}
use Rattle.reg_tasks.proofs.lemmas.Slotting.{number_of, stands_at, stands_nowhere}
use Rattle.reg_tasks.proofs.Rising.{up_rising}
use Rattle.reg_tasks.proofs.slot.stands.Goals as goal

pub returns-in_default : goal.returns-in_default
returns-in_default g c = sym
    (ap (is_that (c.args.account, c.args.after))
    (stands_nowhere c.args.openings.now c.args.slots.now c.args.account c.in_default.ensures))

pub returns-in-Some-slots : goal.returns-in-Some-slots
returns-in-Some-slots g c =
    let up = up_rising number_of c.args.openings.now c.requires.rising in
    let at = stands_at c.args.openings.now c.args.slots.now c.in-Some.slot c.args.account c.index-slots-slot.result up
    c.requires.size c.in-Some.ensures.0 c.in-Some.ensures.1
    ∙ ap (option_map name_of) (sym c.index-slots-slot.is ∙ c.in-Some-slots.is) in
    c.is_named.ensures ∙ sym (ap (is_that (c.args.account, c.args.after)) at)

pub returns-in-None : goal.returns-in-None
returns-in-None g c =
    let up = up_rising number_of c.args.openings.now c.requires.rising in
    let at = stands_at c.args.openings.now c.args.slots.now c.in-Some.slot c.args.account c.index-slots-slot.result up
    c.requires.size c.in-Some.ensures.0 c.in-Some.ensures.1
    ∙ ap (option_map name_of) (sym c.index-slots-slot.is ∙ c.in-None.is) in
    sym (ap (is_that (c.args.account, c.args.after)) at)
