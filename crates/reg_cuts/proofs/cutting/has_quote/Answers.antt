use Rattle.std.proofs.Common.{◌∙◌}
use Rattle.reg_cuts.proofs.lemmas.Splits.{by-memchr}
use Rattle.reg_cuts.proofs.cutting.has_quote.Goals as goal

pub returns : goal.returns
returns c = c.is_some.ensures ∙ by-memchr c.args.part.now c.memchr.result c.memchr.ensures
