use Rattle.reg_text.proofs.NextText.{next-texts-read}
use Rattle.reg_text.proofs.writing.laws.each_next_text_is_read_on.Goals as goal

pub returns : goal.returns
returns c = next-texts-read c.a_written_book_is_read_again.ensures c.each_report_is_read_on.ensures
