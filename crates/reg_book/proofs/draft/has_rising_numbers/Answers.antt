use Rattle.std.proofs.Common.{arith}
use Rattle.reg_facts.proofs.lemmas.Numbers.{below_not_le}
use Rattle.reg_book.proofs.Orders.{le_of, no_rise, one_more}
use Rattle.reg_book.proofs.draft.has_rising_numbers.Goals as goal

pub returns-then-le : goal.returns-then-le
returns-then-le c =
    let le = le_of c.number.result c.number-in-loop-next.result (let e = c.if-le.ensures in cc) in
    let falls = no_rise c.args.accounts.now c.loop-next.next c.index-accounts-next.result
    c.index-accounts-next-in-loop-next.result c.number.result c.number-in-loop-next.result
    (omega arith) (omega arith) c.index-accounts-next.is c.index-accounts-next-in-loop-next.is c.number.ensures
    c.number-in-loop-next.ensures le in
    (λ t. absurd cc, λ rising. absurd (falls rising))

pub loop-next-preserved : goal.loop-next-preserved
loop-next-preserved c =
    let lt = below_not_le c.number.result c.number-in-loop-next.result (let e = c.if-le.ensures in cc) in
    one_more c.args.accounts.now c.loop-next.next c.index-accounts-next.result c.index-accounts-next-in-loop-next.result
    c.number.result c.number-in-loop-next.result
    (omega arith) (omega arith) c.index-accounts-next.is c.index-accounts-next-in-loop-next.is c.number.ensures
    c.number-in-loop-next.ensures lt c.loop-next.invariant
