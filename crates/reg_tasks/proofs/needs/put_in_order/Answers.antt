use Rattle.std.proofs.Common.{◌≡◌, ◌<◌, length, get_or, arith, sym, ap, subst, ◌∙◌}
use Rattle.std.specs.Prelude.{IsPermutation}
use Rattle.std.proofs.lemmas.List.Sorted.{IsPermutation-trans}
use Rattle.reg_schedules.specs.Pool.{tail_in}
use Rattle.reg_schedules.specs.Docks.{names_needed}
use Rattle.reg_schedules.proofs.lemmas.WorldFits.{same_name}
use Rattle.reg_tasks.specs.Names.{FindsFrom}
use Rattle.reg_tasks.specs.Parcels.{names_of}
use Rattle.reg_tasks.proofs.Names.{InOrder, in_order, never_missing, fetched, all_in_order, needed_at, get_or_any}
use Rattle.reg_tasks.proofs.Names.{names_size}
use Rattle.reg_tasks.proofs.needs.put_in_order.Goals as goal
use Rattle.reg_tasks.proofs.needs.put_in_order.Goals.{in-Some, in_default}

pub loop-index-preserved : goal.loop-index-preserved
loop-index-preserved g c =
    let k = c.loop-index.index in
    let arrows = c.args.arrows.now in
    let accounts = c.args.accounts.now in
    let now = c.loop-index.parcels in
    let here : InOrder arrows accounts (names_of now) k =
    in_order arrows accounts c.args.parcels.now now k c.requires.needed c.loop-index.invariant.moved
    c.loop-index.invariant.first in
    let account_is : c.index-accounts-index.result ≡ get_or accounts k 0 =
    c.index-accounts-index.is ∙ get_or_any accounts k c.index-accounts-index.result 0 c.loop-index-test.true in
    let name_is : (c.index-accounts-index.result, c.tail_in.result) ≡ get_or (names_needed arrows accounts) k (0, 0) =
    (λ i. (account_is i, (c.tail_in.ensures ∙ ap (tail_in arrows) account_is) i))
    ∙ sym (needed_at arrows accounts k c.loop-index-test.true) in
    elim c.match-found.branch [
      | in-Some w ↦
          let moved : IsPermutation now c.match-found.parcels =
          subst (λ ys. IsPermutation now ys) (sym w.parcels-is) w.swap.ensures.permutation in
          let there = w.in-Some.ensures in
          let inside : w.in-Some.other < length now = omega (arith, there.1, names_size now) in
          let is = get_or_any (names_of now) w.in-Some.other (0, 0) (
            c.index-accounts-index.result,
            c.tail_in.result,
          ) there.1
          ∙ same_name (get_or (names_of now) w.in-Some.other (c.index-accounts-index.result, c.tail_in.result))
          (c.index-accounts-index.result, c.tail_in.result) there.2 ∙ name_is in
          record {
            moved = IsPermutation-trans c.args.parcels.now now c.match-found.parcels c.loop-index.invariant.moved moved;
            first = fetched arrows accounts now c.match-found.parcels k w.in-Some.other here c.loop-index-test.true
                there.0 inside is (w.parcels-is ∙ w.swap.ensures.after);
          }
      | in_default w ↦ absurd (never_missing arrows accounts now k (
        c.index-accounts-index.result,
        c.tail_in.result,
      ) c.requires.distinct c.loop-index-test.true here name_is
          (subst (FindsFrom (names_of now) k (c.index-accounts-index.result, c.tail_in.result)) w.in_default.is
          c.find_from-found.ensures))
    ]

pub returns-clause-names : goal.returns-clause-names
returns-clause-names g c =
    all_in_order c.args.arrows.now c.args.accounts.now c.loop-index.parcels c.loop-index.index
    (omega (arith, c.loop-index-test.false))
    (in_order c.args.arrows.now c.args.accounts.now c.args.parcels.now c.loop-index.parcels c.loop-index.index
    c.requires.needed c.loop-index.invariant.moved c.loop-index.invariant.first)
