use Rattle.reg_regions.proofs.Together.{regions-day}
use Rattle.reg_regions.proofs.laws.regions_are_a_day.Goals as goal

pub returns : goal.returns
returns c =
    regions-day c.step_laws.ensures c.stays_ready.ensures c.region_is_as_the_day.ensures.last
    c.region_is_as_the_day.ensures.replies
