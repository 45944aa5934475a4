use Rattle.std.proofs.Common.{◌≡◌, ◌++◌, ◌∷◌, [], Ok, map, append-nil, append_assoc, rules, sym, ap, ◌∙◌}
use Rattle.std.proofs.lemmas.List.{map-append, nil_from_length}
use Rattle.reg_run.proofs.threads.all_ended.Goals as goal

pub loop-one-preserved : goal.loop-one-preserved
loop-one-preserved g c =
    let i = c.loop-one.invariant in
    let left = c.next.new.self.rest.items in
    let items = c.in-Some.ensures.steps.0 in
    let before = c.loop-one.all.items in
    let own = c.in_ok-worker.worker in
    let is : c.in-Some.one ≡ Ok own = search rules in
    record {
      can_go = record {};
      ends = record {};
      all = ap (λ ws. map Ok ws ++ left) c.in_ok-push.ensures.items
          ∙ ap (λ rs. rs ++ left) (map-append Ok before (own ∷ []))
          ∙ append_assoc (map Ok before) (Ok own ∷ []) left
          ∙ ap (λ r. map Ok before ++ r ∷ left) (sym is)
          ∙ ap (λ rs. map Ok before ++ rs) (sym items) ∙ i.all;
    }

pub returns : goal.returns
returns g c =
    let i = c.loop-one.invariant in
    let none : c.loop-one.one-iterator.rest.items ≡ [] =
    nil_from_length _ (sym c.loop-one.one-iterator.rest.ok.0 ∙ c.in-None.ensures.steps.0) in
    let all = c.loop-one.all.items in
    sym (append-nil (map Ok all)) ∙ ap (λ rs. map Ok all ++ rs) (sym none) ∙ i.all
