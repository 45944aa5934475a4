use Rattle.std.proofs.Common.{◌≡◌, rules, sym, subst, Vec, Global}
use Rattle.std.specs.Prelude.{All, Contains}
use Rattle.std.specs.declared.vec.IntoIter.{IntoIter}
use Rattle.std.proofs.lemmas.List.Elements.{All-nil, All-push, All-head, All-tail, Contains-get_or}
use Rattle.reg_regions.specs.declared.instruction.Placed.{Placed}
use Rattle.reg_regions.specs.Dealing.{AreLeftOf}
use Rattle.reg_regions.specs.Lists.{joined_lists}
use Rattle.reg_regions.proofs.Known.{all-each}
use Rattle.reg_regions.proofs.running.replies.from_the_first.Goals as goal

pub loop-region-init : goal.loop-region-init
loop-region-init c =
    let told = joined_lists c.args.regions.items in
    let same : c.into_iter-region-iterator.result.rest.items ≡ c.args.regions.items = search rules in
    let left = λ (own : IntoIter Placed Global). All (Contains told) own.rest.items in
    record {
      can_go = record {};
      ends = record {};
      left = subst (AreLeftOf told) (sym c.in_ok-left.ensures.items) (All-nil left);
      rest = subst (All (λ (v : Vec Placed Global). All (Contains told) v.items)) (sym same)
          (all-each (Contains told) c.args.regions.items (λ k d lt. Contains-get_or told k d lt));
    }

pub loop-region-preserved : goal.loop-region-preserved
loop-region-preserved c =
    let i = c.loop-region.invariant in
    let told = joined_lists c.args.regions.items in
    let left = λ (own : IntoIter Placed Global). All (Contains told) own.rest.items in
    let is = λ (v : Vec Placed Global). All (Contains told) v.items in
    let rest = subst (All is) c.in-Some.ensures.steps.0 i.rest in
    record {
      can_go = record {};
      ends = record {};
      left = subst (AreLeftOf told) (sym c.in_ok-push.ensures.items)
          (All-push left c.loop-region.left.items c.into_iter.result i.left
          (subst (All (Contains told)) (sym c.into_iter.ensures.rest)
          (All-head is c.in-Some.region c.next.new.self.rest.items rest)));
      rest = All-tail is c.in-Some.region c.next.new.self.rest.items rest;
    }
