use Rattle.reg_text.proofs.ReportSizes.{no-longer}
use Rattle.reg_text.proofs.most.no_report_is_longer.Goals as goal

pub returns : goal.returns
returns c = no-longer c.step_laws.ensures c.each_footprint_is_sound.ensures c.stays_ready.ensures
    c.settled_is_closing.ensures.committed c.closing_is_a_book.ensures
