use Rattle.std.proofs.Common.{◌<◌, Bool, List, rules, sym, subst, ◌∙◌}
use Rattle.reg_base.proofs.lemmas.Chunks.{ChunksOf, chunks-of}
use Rattle.reg_regions.specs.Homes.{AreHomeIfSo}
use Rattle.reg_regions.proofs.Sized.{AreHomeSoFar, home-next, home-end}
use Rattle.reg_regions.proofs.admission.accounts.are_all_home.Goals as goal

pub loop-home-init : goal.loop-home-init
loop-home-init g c =
    let is = AreHomeIfSo c.args.setting.now c.args.batch.now c.args.deals.now in
    let lists = c.args.lists.now in
    let found = c.in-Ok.found in
    let size = c.max-size.result in
    let some : 0 < size = search rules in
    record {
      next = record {};
      ends = record {};
      so_far = record {
        first = 0;
        others = lists;
        left = subst (λ (runs : List Bool). ChunksOf is 0 lists size runs)
            (sym c.into_iter-home-iterator.ensures.into_iter_gives.0)
            (chunks-of is size found.items lists some (sym found.ok.0 ∙ c.in-Ok.ensures.len) c.in-Ok.ensures.each);
        all = λ rest. rest;
      };
    }

pub loop-home-preserved : goal.loop-home-preserved
loop-home-preserved g c =
    let behind = c.next.new.self.rest.items in
    record {
      next = record {};
      ends = record {};
      so_far = home-next c.args.setting.now c.args.batch.now c.args.lists.now c.args.deals.now c.max-size.result
          c.in-Some.home behind c.if-not-home.false
          (subst (AreHomeSoFar c.args.setting.now c.args.batch.now c.args.lists.now c.args.deals.now c.max-size.result)
          c.in-Some.ensures.steps.0 c.loop-home.invariant.so_far);
    }

pub returns : goal.returns
returns g c truth =
    home-end c.args.setting.now c.args.batch.now c.args.lists.now c.args.deals.now c.max-size.result
    c.loop-home.home-iterator.rest.items (sym c.loop-home.home-iterator.rest.ok.0 ∙ c.in-None.ensures.steps.0)
    c.if-lists-deals.false c.loop-home.invariant.so_far
