use Rattle.std.proofs.Common.{◌≡◌, length, take, sym, ap, ◌∙◌, arith}
use Rattle.std.proofs.lemmas.List.{take_more}
use Rattle.reg_regions.specs.Lists.{joined_lists}
use Rattle.reg_advice.specs.declared.dealing.Swap.{Swap}
use Rattle.reg_regions.proofs.Exchanged.{exchanged_more, length-exchanged}
use Rattle.reg_regions.proofs.exchange.swap_all.Goals as goal

pub swap_two-requires-clause-one : goal.swap_two-requires-clause-one
swap_two-requires-clause-one g c =
    let k = c.loop-swap.swap-index in
    let none : Swap = record { one = 0; other = 0 } in
    let size : length (joined_lists c.loop-swap.lists) ≡ length (joined_lists c.args.lists.now) =
    ap length c.loop-swap.invariant.so_far
    ∙ length-exchanged (take k c.args.swaps.now) (joined_lists c.args.lists.now) in
    let lt = (c.requires k none c.loop-swap-test.true).one in
    omega (arith, lt, size)

pub swap_two-requires-clause-other : goal.swap_two-requires-clause-other
swap_two-requires-clause-other g c =
    let k = c.loop-swap.swap-index in
    let none : Swap = record { one = 0; other = 0 } in
    let size : length (joined_lists c.loop-swap.lists) ≡ length (joined_lists c.args.lists.now) =
    ap length c.loop-swap.invariant.so_far
    ∙ length-exchanged (take k c.args.swaps.now) (joined_lists c.args.lists.now) in
    let lt = (c.requires k none c.loop-swap-test.true).other in
    omega (arith, lt, size)

pub loop-swap-preserved : goal.loop-swap-preserved
loop-swap-preserved g c =
    let k = c.loop-swap.swap-index in
    let none : Swap = record { one = 0; other = 0 } in
    let more = take_more c.args.swaps.now k none c.loop-swap-test.true in
    record {
      so_far = rw more (rw exchanged_more (rw (sym c.loop-swap.invariant.so_far) c.swap_two.ensures.joined));
      sizes = c.swap_two.ensures.sizes ∙ c.loop-swap.invariant.sizes;
    }
