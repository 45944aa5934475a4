use Rattle.reg_text.proofs.WrittenTexts.{figures-written}
use Rattle.reg_text.proofs.writing.laws.all_figures_are_written.Goals as goal

pub returns : goal.returns
returns c = figures-written
