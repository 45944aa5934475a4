use Rattle.std.proofs.Common.{◌≡◌, ◌+◌, ◌∙◌, arith, length, sym, ap, subst}
use Rattle.std.proofs.lemmas.Grind.{common_steps}
use Rattle.std.specs.Prelude.{All}
use Rattle.reg_rules.specs.Laws.{IsReady}
use Rattle.reg_rules.specs.State.{State}
use Rattle.reg_book.specs.Book.{directory_of}
use Rattle.reg_regions.specs.Dealing.{AreSettledOnce}
use Rattle.reg_regions.specs.Lists.{joined_lists}
use Rattle.reg_regions.specs.Swaps.{IsSwapWithin, exchanged}
use Rattle.reg_regions.proofs.Endings.{admitted}
use Rattle.reg_regions.proofs.Exchanged.{exchanged-same, length-exchanged}
use Rattle.reg_regions.proofs.Pieces.{ready-permuted}
use Rattle.reg_regions.proofs.Sized.{same-size}
use Rattle.reg_regions.proofs.settlement.settle_by_advice.Goals as goal

pub admit-found-requires-clause-directory : goal.admit-found-requires-clause-directory
admit-found-requires-clause-directory g c κs within =
    c.requires.directory ∙ ap directory_of (sym (c.in_ok-regions.ensures ∙ c.in_ok-cut.ensures))

pub settle_lists-requires-clause-ready : goal.settle_lists-requires-clause-ready
settle_lists-requires-clause-ready g c κs within =
    let base = c.args.batch.now.base + 1 in
    let old = joined_lists c.in_ok-regions.regions.items in
    let swaps = c.in-Some.dealing.swaps.items in
    let p = admitted c.args.setting.now c.args.batch.now old c.admit-found.result.1.items c.in-Some.is
    c.admit-found.ensures in
    subst (IsReady base) (sym p.swapped)
    (ready-permuted base old (exchanged swaps old) (exchanged-same swaps old p.within)
    (subst (IsReady base) (sym (c.in_ok-regions.ensures ∙ c.in_ok-cut.ensures)) c.requires.ready))

pub settle_lists-requires-clause-home : goal.settle_lists-requires-clause-home
settle_lists-requires-clause-home g c κs within =
    (admitted c.args.setting.now c.args.batch.now (joined_lists c.in_ok-regions.regions.items)
    c.admit-found.result.1.items c.in-Some.is c.admit-found.ensures).home

pub settle_lists-requires-clause-each_once : goal.settle_lists-requires-clause-each_once
settle_lists-requires-clause-each_once g c κs within =
    (admitted c.args.setting.now c.args.batch.now (joined_lists c.in_ok-regions.regions.items)
    c.admit-found.result.1.items c.in-Some.is c.admit-found.ensures).each_once

pub swap_back-requires : goal.swap_back-requires
swap_back-requires g c =
    let old = joined_lists c.in_ok-regions.regions.items in
    let swaps = c.in-Some.dealing.swaps.items in
    let p = admitted c.args.setting.now c.args.batch.now old c.admit-found.result.1.items c.in-Some.is
    c.admit-found.ensures in
    let now = c.deref_mut.result.now in
    let size : length (joined_lists now) ≡ length old =
    ap (λ ls. length (joined_lists ls)) c.deref_mut.ensures.value
    ∙ same-size c.in_ok-settled.settled.lists.items c.admit-found.result.1.items c.in_ok-settled.ensures.sizes
    ∙ ap length p.swapped ∙ length-exchanged swaps old in
    subst (All (IsSwapWithin (length (joined_lists now)))) (sym c.deref-2.ensures.value)
    (subst (λ n. All (IsSwapWithin n) swaps) (sym size) p.within)

pub returns-clause-turned : goal.returns-clause-turned
returns-clause-turned g c =
    let b = c.args.batch.now in
    let old = joined_lists c.in_ok-regions.regions.items in
    let swaps = c.in-Some.dealing.swaps.items in
    let p = admitted c.args.setting.now c.args.batch.now old c.admit-found.result.1.items c.in-Some.is
    c.admit-found.ensures in
    let settled = c.in_ok-settled.settled in
    let after = joined_lists settled.lists.items in
    let same = c.in_ok-regions.ensures ∙ c.in_ok-cut.ensures in
    record {
      swaps = swaps;
      within = subst (λ (s : State). All (IsSwapWithin (length s)) swaps) same p.within;
      after = after;
      settled = subst (λ (s : State). AreSettledOnce c.args.setting.now b s after settled.replies.items)
          (p.swapped ∙ ap (λ (s : State). exchanged swaps s) same) c.in_ok-settled.ensures.settled;
      back = grind (arith, common_steps);
    }
