use Rattle.std.proofs.Common.{ap}
use Rattle.reg_text.proofs.Names.{DraftValue}
use Rattle.reg_text.proofs.PartFacts.{joined-count}
use Rattle.reg_text.proofs.reading.joining.join_accounts.Goals as goal

pub invariant_of-result : goal.invariant_of-result
invariant_of-result c =
    let over = c.end_block.new.body in
    let part = c.args.part in
    let none = ap (λ (d : DraftValue). d.head) c.in-Ok.ensures.over in
    record {
      count_is = joined-count over.count part.count over.head part.head over.accounts part.accounts c.append.new.self
          over.count_is none part.count_is c.in-Ok-append.ensures.ok;
    }
