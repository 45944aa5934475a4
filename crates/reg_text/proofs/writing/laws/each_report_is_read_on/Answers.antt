use Rattle.reg_text.proofs.NextDays.{reports-read}
use Rattle.reg_text.proofs.writing.laws.each_report_is_read_on.Goals as goal

pub returns : goal.returns
returns c = reports-read c.a_written_book_is_read_again.ensures c.settled_is_closing.ensures.committed
    c.every_chain.ensures.books
