use Rattle.std.proofs.Common.{◌∙◌}
use Rattle.std.proofs.lemmas.Result.{on_ok_weaker}
use Rattle.reg_rules.specs.declared.reply.LogRow.{LogRow}
use Rattle.reg_text.proofs.PlainRows.{log-text}
use Rattle.reg_text.proofs.writing.log.put_entry.Goals as goal

pub returns : goal.returns
returns c =
    let log : LogRow = record {
      number = c.args.entry;
      day = c.args.day;
      instruction = c.args.instruction.now;
      reply = c.args.reply.now;
    } in
    let head = c.as_slice.ensures ∙ rw c.requires at c.make_head.ensures in
    on_ok_weaker _ (log-text c.args.text.now _ _ _ _ log head c.in_ok-append.ensures c.in_ok-put_closing.ensures)
    c.append-2.ensures
