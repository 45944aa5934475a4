use Rattle.std.proofs.Common.{◌∙◌}
use Rattle.reg_base.proofs.Spelled.{parsed}
use Rattle.reg_base.proofs.digits.parsed.Goals as goal

pub returns : goal.returns
returns c = c.ok.ensures.value ∙ parsed c.args.text.now c.parse.result c.requires c.parse.ensures.value.0
