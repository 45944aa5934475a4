use Rattle.std.proofs.Common.{◌≡◌, ◌≤◌, ◌∙◌, ◌++◌, ◌∷◌, [], sym, ap, length, drop, arith, subst}
use Rattle.std.proofs.lemmas.List.{take_all}
use Rattle.std.proofs.Math.Seq.{drop-length}
use Rattle.reg_base.specs.Rising.{IsRising}
use Rattle.reg_rules.specs.State.{State, numbers}
use Rattle.reg_rules.proofs.lemmas.Accounts.{length-numbers}
use Rattle.reg_book.specs.Book.{overlay, AreHigher}
use Rattle.reg_book.proofs.Overlays.{over_nothing, over_more, popped, numbers-overlay, length-overlay, higher-last}
use Rattle.reg_book.proofs.Overlays.{lower-left}
use Rattle.reg_book.proofs.book.replace_accounts.Goals as goal

pub loop-account-init : goal.loop-account-init
loop-account-init c = record {
  rest = sym (take_all _ _ (omega arith));
  done = sym (ap (λ (d : State). overlay c.args.accounts.now.items d) (drop-length c.args.settled.items)
      ∙ over_nothing c.args.accounts.now.items);
  fit = c.requires.within_limits;
  within = omega (arith, c.len-until.ensures);
  higher = λ j lt k le within.
      absurd (omega (arith, c.len-until.ensures, length-numbers c.args.accounts.now.items, le, within));
}

pub replace_last-requires-clause-rising : goal.replace_last-requires-clause-rising
replace_last-requires-clause-rising c =
    let left = length c.loop-account.settled.items in
    let same = ap numbers c.loop-account.invariant.done
    ∙ numbers-overlay c.args.accounts.now.items (drop left c.args.settled.items) in
    subst IsRising (sym same) c.requires.rising

pub count_not_higher-until-requires-clause-higher : goal.count_not_higher-until-requires-clause-higher
count_not_higher-until-requires-clause-higher c =
    let all = c.args.accounts.now.items in
    let cur = c.loop-account.settled.items in
    let w = c.in-Some.account in
    let same = ap numbers c.loop-account.invariant.done
    ∙ numbers-overlay all (drop (length cur) c.args.settled.items) in
    let parts : cur ≡ c.pop.new.self.items ++ w ∷ [] = c.in-Some.ensures.items in
    let higher = subst (λ ns. AreHigher ns c.loop-account.until w.number) (sym same)
    (higher-last (numbers all) cur c.pop.new.self.items w c.loop-account.until c.loop-account.invariant.higher parts) in
    subst (λ (s : State). AreHigher (numbers s) c.loop-account.until c.number.result) (sym c.deref.ensures.value)
    (subst (AreHigher (numbers c.loop-account.accounts.items) c.loop-account.until) (sym c.number.ensures) higher)

pub loop-account-preserved : goal.loop-account-preserved
loop-account-preserved c =
    let all = c.args.accounts.now.items in
    let cur = c.loop-account.settled.items in
    let w = c.in-Some.account in
    let inv = c.loop-account.invariant in
    let parts : cur ≡ c.pop.new.self.items ++ w ∷ [] = c.in-Some.ensures.items in
    let (front, back) = popped c.args.settled.items cur c.pop.new.self.items w inv.rest parts in
    let same = ap numbers inv.done ∙ numbers-overlay all (drop (length cur) c.args.settled.items) in
    let size = ap length inv.done ∙ length-overlay all (drop (length cur) c.args.settled.items) in
    let until = c.count_not_higher-until.result in
    let within = subst (λ (s : State). until ≤ length s) c.deref.ensures.value
    c.count_not_higher-until.ensures.within in
    let above = subst (AreHigher (numbers c.loop-account.accounts.items) until) c.number.ensures
    (subst (λ (s : State). AreHigher (numbers s) until c.number.result) c.deref.ensures.value
    c.count_not_higher-until.ensures.higher) in
    record {
      rest = front;
      done = c.replace_last.ensures.items
          ∙ ap (λ (xs : State). overlay xs (w ∷ [])) inv.done
          ∙ over_more all (drop (length cur) c.args.settled.items) w
          ∙ ap (λ d. overlay all d) (sym back);
      fit = c.replace_last.ensures.within_limits;
      within = omega (arith, within, size);
      higher = lower-left (numbers all) c.args.settled.items cur c.pop.new.self.items w until
          c.requires.settled_rising inv.rest parts (subst (λ ns. AreHigher ns until w.number) same above);
    }
