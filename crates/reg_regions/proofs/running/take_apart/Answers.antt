use Rattle.std.proofs.Common.{◌≡◌, ◌++◌, ◌∷◌, [], map, append-nil, append_assoc, ap, sym, ◌∙◌}
use Rattle.std.proofs.lemmas.List.{nil_from_length}
use Rattle.reg_regions.specs.declared.running.settled_list.SettledList.{SettledList}
use Rattle.reg_run.specs.declared.ran.Ran.{Ran}
use Rattle.reg_regions.proofs.running.take_apart.Goals as goal

pub loop-one-preserved : goal.loop-one-preserved
loop-one-preserved c =
    let i = c.loop-one.invariant in
    let one = c.in-Some.one in
    let left = c.next.new.self.rest.items in
    let items = c.in-Some.ensures.steps.0 in
    let lists = c.loop-one.lists.items in
    let replies = c.loop-one.replies.items in
    record {
      can_go = record {};
      ends = record {};
      lists = ap (λ ls. ls ++ map (λ (s : Ran SettledList). s.answer.accounts) left) c.in_ok-push.ensures.items
          ∙ append_assoc lists (one.answer.accounts ∷ []) (map (λ (s : Ran SettledList). s.answer.accounts) left)
          ∙ ap (λ ss. lists ++ map (λ (s : Ran SettledList). s.answer.accounts) ss) (sym items) ∙ i.lists;
      replies = ap (λ ls. ls ++ map (λ (s : Ran SettledList). s.answer.replies) left) c.in_ok-push-2.ensures.items
          ∙ append_assoc replies (one.answer.replies ∷ []) (map (λ (s : Ran SettledList). s.answer.replies) left)
          ∙ ap (λ ss. replies ++ map (λ (s : Ran SettledList). s.answer.replies) ss) (sym items) ∙ i.replies;
    }

pub returns : goal.returns
returns c =
    let none : c.loop-one.one-iterator.rest.items ≡ [] =
    nil_from_length _ (sym c.loop-one.one-iterator.rest.ok.0 ∙ c.in-None.ensures.steps.0) in
    record {
      lists = sym (append-nil c.loop-one.lists.items)
          ∙ ap (λ ss. c.loop-one.lists.items ++ map (λ (s : Ran SettledList). s.answer.accounts) ss) (sym none)
          ∙ c.loop-one.invariant.lists;
      replies = sym (append-nil c.loop-one.replies.items)
          ∙ ap (λ ss. c.loop-one.replies.items ++ map (λ (s : Ran SettledList). s.answer.replies) ss) (sym none)
          ∙ c.loop-one.invariant.replies;
    }
