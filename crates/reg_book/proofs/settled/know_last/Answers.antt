use Rattle.std.proofs.Common.{arith}
use Rattle.reg_book.proofs.Folds.{last-number}
use Rattle.reg_book.proofs.settled.know_last.Goals as goal

pub returns-in-Some : goal.returns-in-Some
returns-in-Some c = λ base counted some.
    let last = last-number c.args.rows.now c.in-Some.row.now base counted some c.in-Some.ensures.item.1 in
    omega (arith, last, c.get.ensures.value, c.get.ensures.range.high)
