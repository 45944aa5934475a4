use Rattle.std.proofs.Common.{◌≡◌, ◌+◌, Global, sym, ap, subst, arith}
use Rattle.std.specs.Prelude.{All, Contains}
use Rattle.std.proofs.lemmas.List.Elements.{All-head, All-tail, All-set}
use Rattle.std.specs.declared.vec.IntoIter.{IntoIter}
use Rattle.reg_regions.specs.declared.instruction.Placed.{Placed}
use Rattle.reg_regions.specs.Dealing.{AreInPlaces}
use Rattle.reg_regions.specs.Lists.{joined_lists}
use Rattle.reg_regions.proofs.Replying.{none-in_places, more-in_places}
use Rattle.reg_regions.proofs.running.replies.in_places.Goals as goal

pub loop-before-init : goal.loop-before-init
loop-before-init c = record {
  left = c.in_ok-left.ensures;
  so_far = subst (AreInPlaces 0 (joined_lists c.args.regions.items)) (sym c.in_ok-replies.ensures.items)
      (none-in_places (joined_lists c.args.regions.items));
}

pub loop-before-preserved : goal.loop-before-preserved
loop-before-preserved c =
    let i = c.loop-before.invariant in
    let told = joined_lists c.args.regions.items in
    let left = c.loop-before.left.items in
    let region = c.index_mut.result.now in
    let own = subst (All (Contains told))
    (ap (λ (r : IntoIter Placed Global). r.rest.items) (sym c.index_mut.ensures.value))
    (i.left c.number_or_zero-home.result region (omega arith)) in
    let both = subst (All (Contains told)) c.in-Some.ensures.items own in
    record {
      left = All-set (λ (r : IntoIter Placed Global). All (Contains told) r.rest.items) left
          c.number_or_zero-home.result c.next.new.self
          (All-tail (Contains told) c.in-Some.placed c.next.new.self.rest.items both) i.left;
      so_far = subst (AreInPlaces (c.loop-before.before + 1) told) (sym c.in_ok-push.ensures.items)
          (more-in_places c.loop-before.before told c.loop-before.replies.items c.in-Some.placed i.so_far
          (All-head (Contains told) c.in-Some.placed c.next.new.self.rest.items both) c.if-placed-before.false);
    }

pub returns : goal.returns
returns c =
    let all : c.loop-before.before ≡ c.args.count = omega arith in
    subst (λ n. AreInPlaces n (joined_lists c.args.regions.items) c.loop-before.replies.items) all
    c.loop-before.invariant.so_far
