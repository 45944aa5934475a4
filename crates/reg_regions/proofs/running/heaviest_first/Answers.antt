use Rattle.std.proofs.lemmas.List.Sorted.{IsPermutation-trans}
use Rattle.reg_regions.proofs.running.heaviest_first.Goals as goal

pub returns : goal.returns
returns g c =
    IsPermutation-trans c.args.regions.now.items _ c.reverse.new.self.items c.sort_unstable_by_key.ensures.permutation
    c.reverse.ensures.permutation
