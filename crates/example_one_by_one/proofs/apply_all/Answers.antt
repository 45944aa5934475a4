use Rattle.std.proofs.Common.{rules, ◌+◌, ◌<◌, List, length, sym, ap, ◌∙◌}
use Rattle.reg_base.specs.declared.instruction.Instruction.{Instruction}
use Rattle.reg_book.specs.Book.{directory_of}
use Rattle.reg_book.specs.Fold.{rows_of}
use Rattle.example_one_by_one.proofs.Applying.{setting_by, rows-more, rows-all}
use Rattle.example_one_by_one.proofs.apply_all.Goals as goal

pub loop-instruction-preserved : goal.loop-instruction-preserved
loop-instruction-preserved c =
    let within : c.loop-instruction.instruction-index < length c.instructions-instructions.result.now = search rules in
    record {
      listed = c.apply.ensures.directory ∙ c.loop-instruction.invariant.listed;
      so_far = rows-more c.args.rules.now c.day-day.result (directory_of c.args.book.now.accounts)
          c.loop-instruction.book c.apply.new.self c.instructions-instructions.result.now
          c.loop-instruction.instruction-index c.instruction-item.result c.in-Ok.row c.loop-instruction.rows.items
          c.push.new.self.items _ within c.instruction-item.is c.loop-instruction.invariant.listed
          c.in-Ok.ensures.answer.book c.in-Ok.ensures.answer.row c.in-Ok-push.ensures.items
          c.loop-instruction.invariant.so_far;
    }

pub returns : goal.returns
returns c =
    let d = directory_of c.args.book.now.accounts in
    let s = c.args.book.now.accounts in
    let setting = setting_by c.args.rules.now c.day-day.result d in
    rows-all setting c.loop-instruction.book c.instructions-instructions.result.now c.loop-instruction.instruction-index
    c.loop-instruction.rows.items _ c.loop-instruction-test.false c.loop-instruction.invariant.so_far
    ∙ ap (λ (is : List Instruction). rows_of setting s c.args.book.now.next is) c.instructions-instructions.ensures
    ∙ ap (λ n. rows_of setting s n c.args.batch.now.instructions) (sym c.requires)
    ∙ ap (λ day. rows_of (setting_by c.args.rules.now day d) s (c.args.batch.now.base + 1)
    c.args.batch.now.instructions) c.day-day.ensures
