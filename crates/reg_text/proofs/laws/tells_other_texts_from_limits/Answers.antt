use Rattle.reg_text.proofs.LimitFaults.{numbers-told, corrections-told, later-told, figures-told, dates-told}
use Rattle.reg_text.proofs.laws.tells_other_texts_from_limits.Goals as goal

pub returns : goal.returns
returns c = record {
  numbers = numbers-told;
  corrections = corrections-told;
  later_corrections = later-told;
  figures = figures-told;
  dates = dates-told;
}
