use Rattle.reg_text.proofs.TextFacts.{log-more, told-more}
use Rattle.reg_text.proofs.writing.statements.put_rows_about.Goals as goal

pub loop-log-preserved : goal.loop-log-preserved
loop-log-preserved c = (
  log-more c.args.text.now c.loop-log.text c.put_log_row.new.text c.args.about.now c.loop-log.log-index
      c.log-item.result c.loop-log-test.true c.log-item.is c.loop-log.invariant.0 c.in_ok-put_log_row.ensures,
  told-more c.args.number c.loop-log.told c.or-told.result c.args.about.now c.loop-log.log-index c.log-item.result
      c.loop-log-test.true c.log-item.is c.loop-log.invariant.1
      (rw (← c.told_by.ensures) c.or-told.ensures),
)
