use Rattle.std.proofs.Common.{◌++◌, ◌&&◌, rules, Some, map, ap, sym, ◌∙◌}
use Rattle.std.specs.List.{list_all}
use Rattle.std.specs.Option.{option_map}
use Rattle.reg_tasks.specs.Contexts.{the_day}
use Rattle.reg_tasks.specs.Gathering.{is_last_there}
use Rattle.reg_tasks.specs.LastParcels.{parcels_in}
use Rattle.reg_tasks.specs.Parcels.{names_of}
use Rattle.reg_tasks.specs.Slots.{name_of}
use Rattle.reg_tasks.proofs.Collecting.{name_more}
use Rattle.reg_tasks.proofs.slot.empty_slots.Goals as goal

pub loop-slot-preserved : goal.loop-slot-preserved
loop-slot-preserved g c =
    let is_last = is_last_there (the_day c.args.context.now) c.args.context.now.plan in
    let rest = map (option_map name_of) c.next.new.self.rest.items in
    let before = c.loop-slot.lasts.items in
    let taken = ap (map (option_map name_of)) c.in-Some.ensures.steps.0 in
    let there = c.in-Some-last_there.ensures in
    record {
      next = search rules;
      ends = search rules;
      names = name_more before c.push.new.self.items c.in-Some-last_there.last (option_map name_of c.in-Some.slot) rest
          (map (option_map name_of) c.args.slots.items) c.in_ok-push.ensures.items there.0
          (ap (λ ns. map Some (names_of (parcels_in before)) ++ ns) (sym taken) ∙ c.loop-slot.invariant.names);
      last = ap (λ b. b && list_all is_last rest) (sym there.1) ∙ ap (list_all is_last) (sym taken)
          ∙ c.loop-slot.invariant.last;
    }
