use Rattle.std.proofs.Common.{eqb, cond, ap, sym, ◌∙◌}
use Rattle.std.specs.Option.{option_map}
use Rattle.reg_tasks.specs.Slots.{name_of, standing_in}
use Rattle.reg_tasks.proofs.lemmas.Slotting.{number_of, stands_at, stands_after, stands_nowhere, none_taken}
use Rattle.reg_tasks.proofs.Rising.{up_rising}
use Rattle.reg_tasks.proofs.slot.take_parcel.Goals as goal

pub returns-in_default-clause-value : goal.returns-in_default-clause-value
returns-in_default-clause-value g c =
    sym (stands_nowhere c.args.openings.now c.args.slots.now c.args.account c.in_default.ensures)

pub returns-in_default-clause-left : goal.returns-in_default-clause-left
returns-in_default-clause-left g c = none_taken c.args.openings.now c.args.slots.now c.args.account c.in_default.ensures

pub returns : goal.returns
returns g c =
    let up = up_rising number_of c.args.openings.now c.requires.rising in
    record {
      value = ap (option_map name_of) c.take.ensures.value
          ∙ sym (stands_at c.args.openings.now c.args.slots.now c.in-Some.slot c.args.account c.index-slots-slot.result
          up c.requires.size c.in-Some.ensures.0 c.in-Some.ensures.1);
      left = λ other. stands_after c.args.openings.now c.args.slots.now c.in-Some.slot c.args.account c.take.new.self up
          c.requires.size c.in-Some.ensures.0 c.in-Some.ensures.1 other
          ∙ ap (λ s. cond (eqb c.args.account other) (option_map name_of s)
          (standing_in c.args.openings.now c.args.slots.now other)) c.take.ensures.after;
    }
