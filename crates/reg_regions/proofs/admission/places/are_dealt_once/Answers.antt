use Rattle.std.proofs.Common.{◌≡◌, ◌+◌, ◌++◌, ℕ, List, length, take, true, sym, ap, subst, ◌∙◌, arith}
use Rattle.std.proofs.lemmas.List.{take_all}
use Rattle.reg_facts.specs.Counting.{times, once}
use Rattle.reg_advice.specs.declared.dealing.Deal.{Deal}
use Rattle.reg_regions.specs.Homes.{AreMarked, dealt_places}
use Rattle.reg_regions.proofs.Marking.{all-marked, one-more}
use Rattle.reg_regions.proofs.admission.places.are_dealt_once.Goals as goal

pub loop-deal-preserved : goal.loop-deal-preserved
loop-deal-preserved c =
    let deals = c.args.deals.now in
    let k = c.loop-deal.deal-index in
    let before = c.loop-deal.invariant in
    let done = dealt_places (take k deals) in
    let more = one-more deals k c.deal-item.result c.loop-deal-test.true c.deal-item.is in
    let truth : c.mark_while_new.result ≡ true = c.if-not-mark_while_new.false in
    let whole : done ++ c.deref.result.now ≡ dealt_places (take (k + 1) deals) =
    ap (λ (ps : List ℕ). done ++ ps) c.deref.ensures.value ∙ sym more in
    record {
      size = c.mark_while_new.ensures.size ∙ before.size;
      marked = subst (λ ps. AreMarked ps c.mark_while_new.new.marks) whole
          (c.mark_while_new.ensures.marked truth done before.marked);
    }

pub returns : goal.returns
returns c truth place =
    let whole = take_all c.loop-deal.deal-index c.args.deals.now (omega arith) in
    subst (λ (ds : List Deal). times place (dealt_places ds) ≡ once (length c.args.marks.now) place) whole
    (all-marked (dealt_places (take c.loop-deal.deal-index c.args.deals.now)) c.loop-deal.marks
    c.loop-deal.invariant.marked (c.are_set.ensures truth) place
    ∙ ap (λ n. once n place) c.loop-deal.invariant.size)
