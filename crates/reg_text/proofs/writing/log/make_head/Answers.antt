use Rattle.reg_text.proofs.RowFacts.{commas-append}
use Rattle.reg_text.proofs.Names.{instruction_fields, answer_fields}
use Rattle.reg_text.proofs.writing.log.make_head.Goals as goal

pub returns : goal.returns
returns c =
    let row = rw (
      c.number.ensures.text,
      c.get.ensures.value,
      c.word.ensures.text,
      c.put_instruction.ensures.text,
      c.put_answer.ensures.text,
      c.clear.ensures,
    ) at c.put.ensures in
    rw (commas-append (instruction_fields c.args.instruction.now) (answer_fields c.args.reply.now)) row
