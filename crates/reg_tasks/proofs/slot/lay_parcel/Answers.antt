use Rattle.std.proofs.Common.{◌≡◌, get_or, eqb, cond, ap, sym, ◌∙◌}
use Rattle.std.specs.Option.{option_map}
use Rattle.reg_tasks.specs.Slots.{opened_accounts, name_of, standing_in}
use Rattle.reg_tasks.proofs.lemmas.Slotting.{number_of, stands_after, among_at}
use Rattle.reg_tasks.proofs.Rising.{up_rising}
use Rattle.reg_tasks.proofs.slot.lay_parcel.Goals as goal

pub returns : goal.returns
returns g c =
    let up = up_rising number_of c.args.openings.now c.requires.rising in
    let slot_is : get_or (opened_accounts c.args.openings.now) c.in-Some.slot 0 ≡ c.args.parcel.value.number =
    c.in-Some.ensures.1 ∙ c.account.ensures in
    record {
      there = sym (among_at c.args.openings.now c.in-Some.slot c.args.parcel.value.number c.in-Some.ensures.0 slot_is);
      laid = λ there other. stands_after c.args.openings.now c.args.slots.now c.in-Some.slot c.args.parcel.value.number
          c.replace.new.self up c.requires.size c.in-Some.ensures.0 slot_is other
          ∙ ap (λ s. cond (eqb c.args.parcel.value.number other) (option_map name_of s)
          (standing_in c.args.openings.now c.args.slots.now other)) c.replace.ensures.after;
    }
