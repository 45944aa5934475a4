use Rattle.std.proofs.Common.{◌≡◌, ◌<◌, ◌-◌, drop, length, ap, ◌∙◌, arith}
use Rattle.reg_regions.specs.Lists.{joined_lists}
use Rattle.reg_advice.specs.declared.dealing.Swap.{Swap}
use Rattle.reg_regions.proofs.Exchanged.{length-back}
use Rattle.reg_regions.proofs.exchange.swap_back.Goals as goal

pub swap_two-requires-clause-one : goal.swap_two-requires-clause-one
swap_two-requires-clause-one g c =
    let k = c.loop-left.left - 1 in
    let none : Swap = record { one = 0; other = 0 } in
    let inside : k < length c.args.swaps.now =
    let le = c.loop-left.invariant.within in let more = c.loop-left-test.true in omega (arith, le, more) in
    let size : length (joined_lists c.loop-left.lists) ≡ length (joined_lists c.args.lists.now) =
    ap length c.loop-left.invariant.so_far
    ∙ length-back (drop c.loop-left.left c.args.swaps.now) (joined_lists c.args.lists.now) in
    let lt = (c.requires k none inside).one in
    omega (arith, lt, size)

pub swap_two-requires-clause-other : goal.swap_two-requires-clause-other
swap_two-requires-clause-other g c =
    let k = c.loop-left.left - 1 in
    let none : Swap = record { one = 0; other = 0 } in
    let inside : k < length c.args.swaps.now =
    let le = c.loop-left.invariant.within in let more = c.loop-left-test.true in omega (arith, le, more) in
    let size : length (joined_lists c.loop-left.lists) ≡ length (joined_lists c.args.lists.now) =
    ap length c.loop-left.invariant.so_far
    ∙ length-back (drop c.loop-left.left c.args.swaps.now) (joined_lists c.args.lists.now) in
    let lt = (c.requires k none inside).other in
    omega (arith, lt, size)
