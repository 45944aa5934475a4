use Rattle.std.proofs.Common.{◌≡◌, ℕ, List, length, map, true, false, refl, sym, ap, subst, ◌∙◌, rules}
use Rattle.std.specs.List.{list_all}
use Rattle.reg_facts.proofs.lemmas.Lists.{written_whole}
use Rattle.reg_facts.proofs.lemmas.Numbers.{clash}
use Rattle.reg_base.specs.Footprint.{is_among}
use Rattle.reg_book.specs.Day.{DayValue}
use Rattle.reg_schedules.specs.Pool.{footprint_at}
use Rattle.reg_tasks.specs.Contexts.{the_day}
use Rattle.reg_tasks.specs.Parcels.{names_of}
use Rattle.reg_tasks.specs.Slots.{opened_accounts, standing_in, laid_at, have_slots}
use Rattle.reg_tasks.proofs.AtEnd.{left_have_slots, slots_touched}
use Rattle.reg_tasks.proofs.lemmas.Gathering.{no_name}
use Rattle.reg_tasks.proofs.slots.Slots.lay_for_row.Goals as goal

pub returns-then-not-have_slots : goal.returns-then-not-have_slots
returns-then-not-have_slots g c =
    let context = c.args.self.now.context.now in
    let names = names_of c.args.outcome.parcels.items in
    let missing : c.have_slots.result ≡ false = c.if-not-have_slots.true in
    let there : have_slots (the_day context) names ≡ false =
    sym (slots_touched c.tails_are_last_touchers.ensures c.last_toucher_is_last.ensures
    (the_day context) context.plan context.planned names)
    ∙ ap (λ os. list_all (λ (n : ℕ × ℕ). is_among (opened_accounts os) n.0) names)
    (sym c.openings-openings.ensures.value)
    ∙ ap (λ ps. list_all (λ (n : ℕ × ℕ). is_among (opened_accounts c.openings-openings.result.now) n.0) (names_of ps))
    (sym c.parcels.ensures.value)
    ∙ sym c.have_slots.ensures ∙ missing in
    record {
      context = refl;
      there = there;
      named = no_name g.N.Naming.day (λ d e.
          let left : List (ℕ × ℕ) = map (λ a. (a, c.args.outcome.place)) (footprint_at d c.args.outcome.place) in
          clash (ap (have_slots (the_day context)) (c.args.outcome.left d e)
          ∙ subst (λ (x : DayValue). have_slots x left ≡ true) (sym (context.named d e))
          (left_have_slots d c.args.outcome.place))
          there);
      back = refl;
      unchanged = refl;
    }

pub returns : goal.returns
returns g c =
    let context = c.args.self.now.context.now in
    let os = context.plan.openings in
    let items = c.args.outcome.parcels.items in
    let passed : c.have_slots.result ≡ true = c.if-not-have_slots.false in
    let all = c.lay_parcels.ensures.there
    ∙ ap (λ ps. list_all (λ (n : ℕ × ℕ). is_among (opened_accounts c.openings-openings.result.now) n.0) (names_of ps))
    (c.into_parts-row.ensures.parcels.0 ∙ sym c.parcels.ensures.value)
    ∙ sym c.have_slots.ensures ∙ passed in
    let slots = c.args.self.now.slots in
    let size : slots.len ≡ length slots.items = search rules in
    record {
      context = refl;
      ran = c.into_parts-row.ensures.ran;
      row = c.into_parts-row.ensures.row.0;
      row_is = c.into_parts-row.ensures.row.1;
      laid = λ a.
          ap (λ ss. standing_in os ss a)
          (written_whole slots.items c.lay_parcels.new.slots slots.len size (c.lay_parcels.auto.slots
          ∙ ap length c.deref_mut.ensures.value))
          ∙ ap (λ ws. standing_in ws c.lay_parcels.new.slots a) (sym c.openings-openings.ensures.value)
          ∙ c.lay_parcels.ensures.laid all a
          ∙ ap (λ ps. laid_at (names_of ps) (standing_in c.openings-openings.result.now c.deref_mut.result.now a) a)
          c.into_parts-row.ensures.parcels.0
          ∙ ap (λ ws. laid_at (names_of items) (standing_in ws c.deref_mut.result.now a) a)
          c.openings-openings.ensures.value
          ∙ ap (λ ss. laid_at (names_of items) (standing_in os ss a) a) c.deref_mut.ensures.value;
    }
