use Rattle.reg_regions.proofs.Listed.{ground-of}
use Rattle.reg_regions.proofs.running.settle_lists.Goals as goal

pub settle_by_workers-requires-clause-ground : goal.settle_by_workers-requires-clause-ground
settle_by_workers-requires-clause-ground g c κs within =
    ground-of c.args.setting.now c.args.batch.now c.args.lists.items c.args.deals.items c.requires.rules
    c.requires.ready c.requires.home
