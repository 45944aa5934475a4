use Rattle.std.proofs.Common.{None, ap, ◌∙◌}
use Rattle.reg_text.proofs.Names.{heading_of, only_heading}
use Rattle.reg_text.proofs.reading.draft.Draft.empty.Goals as goal

pub returns : goal.returns
returns c = c.empty-2.ensures (heading_of c.empty.result) ∙ ap (λ h. only_heading h None) c.empty.ensures
