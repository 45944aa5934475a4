use Rattle.reg_regions.specs.Stealing.{region_openings}
use Rattle.reg_regions.proofs.running.settle_lists.Given as goal

-- the regions begin with the lists of the arguments
abbrev pub ghosts-settle_by_workers : goal.ghosts-settle_by_workers
ghosts-settle_by_workers g a = record {
  openings = region_openings a.lists.items;
  deals = a.deals.items;
}
