use Rattle.std.proofs.Common.{ℕ, ◌+◌, ◌/◌, ◌<◌, length, ◌∷◌, [], inr, refl, sym, ap, subst, ◌∙◌, arith, Result, List}
use Rattle.reg_base.specs.declared.directory.NoMemory.{NoMemory}
use Rattle.reg_base.specs.Chunks.{UnlessOut}
use Rattle.reg_base.proofs.lemmas.Chunks.{ChunksOf, chunks-of}
use Rattle.reg_plan.specs.declared.runs.Found.{Found}
use Rattle.reg_plan.specs.Runs.{IsFoundFrom}
use Rattle.reg_plan.proofs.Behind.{IsFoundSoFar, found-next, found-all}
use Rattle.reg_plan.proofs.runs.find_by_runs.Goals as goal

pub loop-found-init : goal.loop-found-init
loop-found-init g c =
    let d = c.args.directory.now in
    let whole = c.args.instructions.now in
    let runs = c.in_ok-found-items.found-items in
    let size : ℕ = length whole / c.args.runs + 1 in
    let some : 0 < size = omega arith in
    record {
      next = record {};
      ends = record {};
      so_far = record {
        index = 0;
        front = [];
        others = whole;
        left = subst (λ (rs : List (Result Found NoMemory)). ChunksOf (UnlessOut (IsFoundFrom d)) 0 whole size rs)
            (sym c.into_iter-found-iterator.ensures.into_iter_gives.0)
            (chunks-of (UnlessOut (IsFoundFrom d)) size runs.items whole some
            (sym runs.ok.0 ∙ c.in_ok-found-items.ensures.len) c.in_ok-found-items.ensures.each);
        found = c.in_ok-all.ensures;
        reached = inr refl;
        both = refl;
      };
    }

pub loop-found-preserved : goal.loop-found-preserved
loop-found-preserved g c =
    let behind = c.next.new.self.rest.items in
    let run = c.in_ok-found.field-0 in
    let items = c.in-Some.ensures.steps.0 ∙ ap (λ (r : Result Found NoMemory). r ∷ behind) c.in_ok-found.was in
    record {
      next = record {};
      ends = record {};
      so_far = found-next c.args.directory.now c.args.instructions.now _ c.loop-found.all run c.in_ok-all-2.all behind
          c.in_ok-all-2.ensures.touched c.in_ok-all-2.ensures.touches
          (subst (IsFoundSoFar c.args.directory.now c.args.instructions.now _ c.loop-found.all) items
          c.loop-found.invariant.so_far);
    }

pub returns : goal.returns
returns g c =
    found-all c.args.directory.now c.args.instructions.now _ c.loop-found.all c.loop-found.found-iterator.rest.items
    (sym c.loop-found.found-iterator.rest.ok.0 ∙ c.in-None.ensures.steps.0) c.loop-found.invariant.so_far
