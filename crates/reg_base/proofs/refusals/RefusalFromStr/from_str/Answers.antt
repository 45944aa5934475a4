use Rattle.reg_base.proofs.RefusalNames.{reads}
use Rattle.reg_base.proofs.refusals.RefusalFromStr.from_str.Goals as goal

pub returns : goal.returns
returns c = rw c.ok_or.ensures.value (reads c.args.text.now c.named.result _ c.named.ensures)
