use Rattle.std.proofs.Common.{◌++◌, rules, ap, sym, ◌∙◌}
use Rattle.reg_tasks.specs.LastParcels.{parcels_in}
use Rattle.reg_tasks.proofs.Collecting.{last_more}
use Rattle.reg_tasks.proofs.gather.last_parcels.Goals as goal

pub loop-parcel-preserved : goal.loop-parcel-preserved
loop-parcel-preserved g c = record {
  next = search rules;
  ends = search rules;
  parcels = last_more c.loop-parcel.lasts.items c.push.new.self.items c.in-Ok.last c.in-Some.parcel
      c.next.new.self.rest.items c.args.parcels.items
      c.in_ok-push.ensures.items c.in-Ok.ensures.0
      (ap (λ ps. parcels_in c.loop-parcel.lasts.items ++ ps) (sym c.in-Some.ensures.steps.0)
      ∙ c.loop-parcel.invariant.parcels);
}
