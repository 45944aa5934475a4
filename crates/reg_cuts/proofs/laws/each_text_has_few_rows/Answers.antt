use Rattle.reg_cuts.proofs.lemmas.RowsFacts.{length-rows_of}
use Rattle.reg_cuts.proofs.laws.each_text_has_few_rows.Goals as goal

pub returns : goal.returns
returns c = length-rows_of
