use Rattle.reg_regions.proofs.Restricted.{region-each, region-last, region-replies, region-numbers}
use Rattle.reg_regions.proofs.laws.region_is_as_the_day.Goals as goal

pub returns : goal.returns
returns c = record {
  each = region-each c.step_laws.ensures c.each_is_a_step.ensures;
  last = region-last c.step_laws.ensures c.each_is_a_step.ensures;
  replies = region-replies c.step_laws.ensures c.each_is_a_step.ensures;
  numbers = region-numbers c.step_laws.ensures;
}
