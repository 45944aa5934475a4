use Rattle.std.proofs.Common.{arith, ◌≡◌, ◌+◌, ◌++◌, ◌∷◌, [], suc, Some, map, length, drop, append_assoc}
use Rattle.std.proofs.Common.{sym, ap, subst, ◌∙◌}
use Rattle.std.specs.Prelude.{All, slice_get}
use Rattle.std.specs.List.{range_with_len}
use Rattle.std.specs.Option.{option_to_list}
use Rattle.std.proofs.lemmas.List.{map-append}
use Rattle.std.proofs.lemmas.List.Elements.{All-head, All-tail, All-push}
use Rattle.reg_claim.specs.declared.views.SeatView.{SeatView}
use Rattle.reg_deques.specs.Passes.{owner_id, owned}
use Rattle.reg_deques.specs.Yards.{deques_of_owners, deques_of_pass, each_owned, worker_of, IsBlank}
use Rattle.reg_run.proofs.Dealt.{next-of, numbers-on}
use Rattle.reg_run.proofs.dealing.make_workers.Goals as goal

pub invariant_of-taker : goal.invariant_of-taker
invariant_of-taker g c =
    let i = c.loop-pass.invariant in
    let deques = g.S.Sharing.deques in
    let k = c.loop-pass.workers.len in
    let pass = c.in-Some.pass in
    let owner = c.unwrap-owner.result in
    let behind = c.next.new.self.rest.items in
    let items = c.in-Some.ensures.steps.0 in
    let others = c.next-in-loop-pass.new.self.rest.items in
    let found : c.next-in-loop-pass.result ≡ Some owner = c.unwrap-owner.ensures in
    let front = c.next-in-loop-pass.ensures.items ∙ ap (λ o. option_to_list o ++ others) found in
    let own = next-of deques k (owner_id owner) (deques_of_owners others)
    (sym (ap deques_of_owners front) ∙ i.owners) in
    let at = numbers-on k (length behind) (worker_of pass) (map worker_of behind)
    (sym (ap (map worker_of) items) ∙ i.left ∙ ap (λ ps. range_with_len k (length ps)) items) in
    record {
      deques_are = All-head (λ p. deques_of_pass p ≡ deques) pass behind
          (subst (All (λ p. deques_of_pass p ≡ deques)) items i.deques);
      own = ap (slice_get deques) at.0 ∙ own.0;
    }

pub loop-pass-preserved : goal.loop-pass-preserved
loop-pass-preserved g c =
    let i = c.loop-pass.invariant in
    let deques = g.S.Sharing.deques in
    let k = c.loop-pass.workers.len in
    let pass = c.in-Some.pass in
    let owner = c.unwrap-owner.result in
    let behind = c.next.new.self.rest.items in
    let items = c.in-Some.ensures.steps.0 in
    let others = c.next-in-loop-pass.new.self.rest.items in
    let found : c.next-in-loop-pass.result ≡ Some owner = c.unwrap-owner.ensures in
    let front = c.next-in-loop-pass.ensures.items ∙ ap (λ o. option_to_list o ++ others) found in
    let own = next-of deques k (owner_id owner) (deques_of_owners others)
    (sym (ap deques_of_owners front) ∙ i.owners) in
    let at = numbers-on k (length behind) (worker_of pass) (map worker_of behind)
    (sym (ap (map worker_of) items) ∙ i.left ∙ ap (λ ps. range_with_len k (length ps)) items) in
    let first = c.split-kept.ensures.first in
    let left = ap length items in
    let others_left = ap length front in
    let pushed = c.in_ok-push.ensures.items in
    let longer = c.in_ok-push.ensures.len in
    let part = ap (λ (v : SeatView). v.stake) first in
    let stake = i.stake in
    let whole = i.whole in
    let many = i.as_many in
    let few = c.requires.few in
    let workers = c.loop-pass.workers.items in
    let numbers = map (λ w. worker_of w.taker.pass) workers in
    let views = map (λ w. owned w.taker.owner) workers in
    let next : k + 1 ≡ c.push.new.self.len = omega (arith, longer) in
    let after : suc k ≡ c.push.new.self.len = omega (arith, longer) in
    let blanks = subst (All IsBlank) items i.blanks in
    record {
      can_go = record {};
      ends = record {};
      table = c.split-kept.ensures.same.0 ∙ i.table;
      stake = omega arith;
      idle = ap (λ (v : SeatView). v.finished) first ∙ i.idle;
      unseen = ap (λ (v : SeatView). v.seen) first ∙ i.unseen;
      whole = omega arith;
      as_many = omega (arith, left, others_left, many);
      deques = All-tail (λ p. deques_of_pass p ≡ deques) pass behind
          (subst (All (λ p. deques_of_pass p ≡ deques)) items i.deques);
      owners = own.1 ∙ ap (λ n. drop n deques) after;
      left = at.1 ∙ ap (λ n. range_with_len n (length behind)) next;
      numbers = ap (λ ws. map (λ w. worker_of w.taker.pass) ws ++ map worker_of behind) pushed
          ∙ ap (λ ns. ns ++ map worker_of behind) (map-append (λ w. worker_of w.taker.pass) workers _)
          ∙ append_assoc numbers (worker_of pass ∷ []) (map worker_of behind)
          ∙ ap (λ ps. numbers ++ map worker_of ps) (sym items) ∙ i.numbers;
      owned = ap (λ ws. map (λ w. owned w.taker.owner) ws ++ each_owned others) pushed
          ∙ ap (λ vs. vs ++ each_owned others) (map-append (λ w. owned w.taker.owner) workers _)
          ∙ append_assoc views (owned owner ∷ []) (each_owned others)
          ∙ ap (λ os. views ++ each_owned os) (sym front) ∙ i.owned;
      blank = subst (All (λ w. IsBlank w.taker.pass)) (sym pushed)
          (All-push (λ w. IsBlank w.taker.pass) workers _ i.blank (All-head IsBlank pass behind blanks));
      blanks = All-tail IsBlank pass behind blanks;
    }
