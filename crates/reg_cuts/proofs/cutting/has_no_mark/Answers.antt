use Rattle.std.proofs.Common.{arith}
use Rattle.reg_cuts.proofs.lemmas.Splits.{no-mark}
use Rattle.reg_cuts.proofs.cutting.has_no_mark.Goals as goal

pub returns : goal.returns
returns c = λ yes. no-mark c.args.part.now (λ is. let first = c.first.ensures.value in let copied = c.copied.ensures in
    let other = c.ne.ensures in absurd (grind arith))
