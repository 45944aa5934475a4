use Rattle.std.proofs.Common.{arith, ◌≡◌, ◌+◌, ◌-◌, ◌++◌, ◌∷◌, [], Some, map, drop, get_or, length, sym, ap, ◌∙◌, suc}
use Rattle.std.specs.Prelude.{slice_get}
use Rattle.std.specs.Option.{option_to_list}
use Rattle.std.proofs.lemmas.List.{map-append}
use Rattle.reg_regions.specs.Stealing.{region_openings}
use Rattle.reg_regions.proofs.Listed.{next-opening, next-deal}
use Rattle.reg_regions.proofs.Placing.{count-more}
use Rattle.reg_regions.proofs.running.region.make_regions.Goals as goal

pub loop-accounts-preserved : goal.loop-accounts-preserved
loop-accounts-preserved g c =
    let i = c.loop-accounts.invariant in
    let n = c.loop-accounts.number in
    let items = c.in-Some.ensures.steps.0 in
    let fewer = ap length items in
    let whole = i.whole in
    let next = next-opening g.C.Cutting.openings n c.in-Some.accounts.items
    (region_openings c.next.new.self.rest.items) (sym (ap region_openings items) ∙ i.left) in
    let one : suc n ≡ n + 1 = omega arith in
    let found : c.next-in-loop-accounts.result ≡ Some c.unwrap-deal.result = c.unwrap-deal.ensures in
    let front = c.next-in-loop-accounts.ensures.items
    ∙ ap (λ o. option_to_list o ++ c.next-in-loop-accounts.new.self.rest.items) found in
    let left_deals = ap length front in
    let left_lists = ap length items in
    let many = i.as_many in
    record {
      can_go = record {};
      ends = record {};
      whole = omega arith;
      as_many = omega (arith, left_deals, left_lists, many);
      left = next.2 ∙ ap (λ k. drop k g.C.Cutting.openings) one;
      deals = (next-deal g.C.Cutting.deals n c.unwrap-deal.result c.next-in-loop-accounts.new.self.rest.items
          (sym front ∙ i.deals)).1 ∙ ap (λ k. drop k g.C.Cutting.deals) one;
      numbers = ap (map (λ r. r.number)) c.in_ok-push.ensures.items
          ∙ map-append (λ r. r.number) c.loop-accounts.regions.items _
          ∙ ap (λ ns. ns ++ (n + 1) ∷ []) i.numbers
          ∙ sym (count-more n);
    }

pub invariant_of-push : goal.invariant_of-push
invariant_of-push g c =
    let i = c.loop-accounts.invariant in
    let n = c.loop-accounts.number in
    let next = next-opening g.C.Cutting.openings n c.in-Some.accounts.items
    (region_openings c.next.new.self.rest.items)
    (sym (ap region_openings c.in-Some.ensures.steps.0) ∙ i.left) in
    let found : c.next-in-loop-accounts.result ≡ Some c.unwrap-deal.result = c.unwrap-deal.ensures in
    let front = c.next-in-loop-accounts.ensures.items
    ∙ ap (λ o. option_to_list o ++ c.next-in-loop-accounts.new.self.rest.items) found in
    let deal = next-deal g.C.Cutting.deals n c.unwrap-deal.result c.next-in-loop-accounts.new.self.rest.items
    (sym front ∙ i.deals) in
    let before : n + 1 - 1 ≡ n = omega arith in
    let lt = next.0 in
    record {
      within = (omega arith, omega (arith, lt));
      opening = next.1 ∙ sym (ap (λ k. get_or g.C.Cutting.openings k []) before);
      dealt = ap (λ k. slice_get g.C.Cutting.deals k) before ∙ deal.0;
    }
