use Rattle.std.proofs.Common.{ap, sym, subst}
use Rattle.reg_tasks.specs.Parcels.{parcels_of}
use Rattle.reg_tasks.specs.Places.{IsPlaceOf}
use Rattle.reg_graph.proofs.delivery.first_head.Goals as goal

pub head_of-requires : goal.head_of-requires
head_of-requires g c = record {
  place = subst (IsPlaceOf c.args.context.now.batch.now) (sym c.after.ensures)
      (c.requires.sent _ _ (ap parcels_of c.in-Some.ensures.cases.0));
}
