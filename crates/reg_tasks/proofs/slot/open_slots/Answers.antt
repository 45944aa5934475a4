use Rattle.std.proofs.Common.{◌≡◌, ◌+◌, ◌++◌, ◌∷◌, ◌<◌, [], get_or, drop, map, length, subst, sym, ap, ◌∙◌, Some, rules}
use Rattle.std.proofs.Props.{props}
use Rattle.std.proofs.lemmas.List.{drop_more}
use Rattle.std.specs.Option.{option_map}
use mathlib.Core.Logic.{∥∥₁_elim}
use Rattle.reg_rules.proofs.lemmas.Accounts.{account-number}
use Rattle.reg_book.specs.Book.{directory_of}
use Rattle.reg_tasks.specs.Slots.{name_of}
use Rattle.reg_tasks.proofs.lemmas.Slotting.{opening_touched, opened_more, unopened}
use Rattle.reg_tasks.proofs.slot.open_slots.Goals as goal

pub open_touched-requires : goal.open_touched-requires
open_touched-requires g c =
    let o = c.opening-item.result in
    let k = c.loop-opening.opening-index in
    let within : k < length c.args.context.now.plan.openings =
    subst (λ os. k < length os) c.openings-openings.ensures.value c.loop-opening-test.true in
    let is : get_or c.args.context.now.plan.openings k o ≡ o =
    ap (λ os. get_or os k o) (sym c.openings-openings.ensures.value) ∙ sym c.opening-item.is in
    record {
      touched = ∥∥₁_elim c.args.context.now.planned (Prim.hlevel props) (λ made.
          opening_touched (directory_of c.args.context.now.book.now.accounts) c.args.context.now.batch.now.instructions
          c.args.context.now.plan made o (k, within, is));
    }

pub loop-opening-preserved : goal.loop-opening-preserved
loop-opening-preserved g c =
    let k = c.loop-opening.opening-index in
    let o = c.opening-item.result in
    let openings = c.openings-openings.result.now in
    let at = drop_more openings k o c.loop-opening-test.true
    ∙ ap (λ w. w ∷ drop (k + 1) openings) (sym c.opening-item.is) in
    let pushed : c.push.new.self.items ≡ c.loop-opening.slots.items ++ Some c.in_ok-parcel.parcel ∷ [] = search rules in
    let number = account-number c.args.context.now.book.now.accounts o.account c.in_ok-parcel.parcel.value
    c.in_ok-parcel.ensures.value in
    ap (λ ss. map (option_map name_of) ss ++ map unopened (drop (k + 1) openings)) pushed
    ∙ opened_more c.loop-opening.slots.items c.in_ok-parcel.parcel o (drop (k + 1) openings)
    (map unopened openings) number c.in_ok-parcel.ensures.after
    (ap (λ os. map (option_map name_of) c.loop-opening.slots.items ++ map unopened os) (sym at)
    ∙ c.loop-opening.invariant)
