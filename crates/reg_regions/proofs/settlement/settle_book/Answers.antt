use Rattle.std.proofs.Common.{◌≡◌, ◌+◌, length, rules, sym, subst, ◌∙◌}
use Rattle.reg_rules.specs.Laws.{IsReady}
use Rattle.reg_book.specs.Day.{DayValue, IsDay, day_of}
use Rattle.reg_regions.proofs.Endings.{day-kept, ready-day, turned-accounts, turned-replies, book-after, is-after}
use Rattle.reg_regions.proofs.settlement.settle_book.Goals as goal

pub settle_by_advice-requires-clause-ready : goal.settle_by_advice-requires-clause-ready
settle_by_advice-requires-clause-ready g c κs within =
    let day : DayValue = day_of c.args.parts c.args.rules.now c.args.batch.now in
    let kept : IsDay day = day-kept c.into_lists-lists.ensures.kept c.are_within_limits.ensures c.base.ensures.room
    c.requires.follows in
    subst (IsReady (c.args.batch.now.base + 1)) (sym c.into_lists-lists.ensures.accounts)
    (ready-day c.stays_ready.ensures day kept)

pub of_lists-parts-requires : goal.of_lists-parts-requires
of_lists-parts-requires g c =
    let day : DayValue = day_of c.args.parts c.args.rules.now c.args.batch.now in
    let kept : IsDay day = day-kept c.into_lists-lists.ensures.kept c.are_within_limits.ensures c.base.ensures.room
    c.requires.follows in
    let lists = c.into_lists-lists.ensures in
    let closed = turned-accounts c.step_laws.ensures c.stays_ready.ensures c.untouched_stay.ensures.numbers
    c.regions_are_a_day.ensures kept c.day.ensures lists.directory lists.accounts c.in_ok-settled.ensures.turned in
    let many : c.from.result ≡ length c.args.batch.now.instructions = search rules in
    book-after c.closing_is_a_book.ensures kept closed lists.directory lists.next many

pub returns-clause-parts : goal.returns-clause-parts
returns-clause-parts g c =
    let day : DayValue = day_of c.args.parts c.args.rules.now c.args.batch.now in
    let kept : IsDay day = day-kept c.into_lists-lists.ensures.kept c.are_within_limits.ensures c.base.ensures.room
    c.requires.follows in
    let lists = c.into_lists-lists.ensures in
    let closed = turned-accounts c.step_laws.ensures c.stays_ready.ensures c.untouched_stay.ensures.numbers
    c.regions_are_a_day.ensures kept c.day.ensures lists.directory lists.accounts c.in_ok-settled.ensures.turned in
    let many : c.from.result ≡ length c.args.batch.now.instructions = search rules in
    c.of_lists-parts.ensures ∙ is-after c.settled_is_closing.ensures.committed kept closed lists.next many

pub returns-clause-replies : goal.returns-clause-replies
returns-clause-replies g c =
    let day : DayValue = day_of c.args.parts c.args.rules.now c.args.batch.now in
    let kept : IsDay day = day-kept c.into_lists-lists.ensures.kept c.are_within_limits.ensures c.base.ensures.room
    c.requires.follows in
    let lists = c.into_lists-lists.ensures in
    turned-replies c.step_laws.ensures c.stays_ready.ensures c.untouched_stay.ensures.numbers
    c.regions_are_a_day.ensures kept c.day.ensures lists.directory lists.accounts c.in_ok-settled.ensures.turned
