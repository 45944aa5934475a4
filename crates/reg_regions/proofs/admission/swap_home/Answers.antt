use Rattle.std.proofs.Common.{◌≡◌, length, sym, ap, subst, ◌∙◌}
use Rattle.std.specs.Prelude.{All, IsPermutation}
use Rattle.reg_rules.specs.State.{numbers}
use Rattle.reg_regions.specs.Homes.{AreKnown}
use Rattle.reg_regions.specs.Lists.{joined_lists}
use Rattle.reg_regions.specs.Swaps.{IsSwapWithin, exchanged, exchanged_back}
use Rattle.reg_regions.proofs.Exchanged.{exchanged-same, exchanged-undone, length-exchanged}
use Rattle.reg_regions.proofs.Known.{known-each, known-swapped}
use Rattle.reg_regions.proofs.admission.swap_home.Goals as goal

pub are_all_home-requires-clause-known : goal.are_all_home-requires-clause-known
are_all_home-requires-clause-known g c κs within =
    let old = joined_lists c.args.lists.now in
    let now = joined_lists c.swap_all.new.lists in
    let same : IsPermutation old now =
    subst (IsPermutation old) (sym (c.swap_all.ensures.exchanged ∙ ap (λ ss. exchanged ss old) c.deref.ensures.value))
    (exchanged-same c.args.dealing.now.swaps.items old c.requires.within) in
    known-each c.args.setting.now.directory c.swap_all.new.lists
    (subst (λ d. AreKnown d (numbers now)) (sym c.requires.directory) (known-swapped old now same))

pub swap_back-requires : goal.swap_back-requires
swap_back-requires g c =
    let swaps = c.args.dealing.now.swaps.items in
    let old = joined_lists c.args.lists.now in
    let size : length (joined_lists c.swap_all.new.lists) ≡ length old =
    ap length c.swap_all.ensures.exchanged ∙ length-exchanged c.deref.result.now old in
    subst (All (IsSwapWithin (length (joined_lists c.swap_all.new.lists)))) (sym c.deref-3.ensures.value)
    (subst (λ n. All (IsSwapWithin n) swaps) (sym size) c.requires.within)

pub returns-clause-stays : goal.returns-clause-stays
returns-clause-stays g c not =
    let swaps = c.args.dealing.now.swaps.items in
    let old = joined_lists c.args.lists.now in
    c.swap_back.ensures.exchanged_back
    ∙ ap (λ ss. exchanged_back ss (joined_lists c.swap_all.new.lists)) c.deref-3.ensures.value
    ∙ ap (exchanged_back swaps) (c.swap_all.ensures.exchanged ∙ ap (λ ss. exchanged ss old) c.deref.ensures.value)
    ∙ exchanged-undone swaps old c.requires.within
