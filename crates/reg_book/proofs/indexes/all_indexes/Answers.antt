use Rattle.std.proofs.Common.{◌<◌, length, rules}
use Rattle.reg_rules.specs.State.{numbers}
use Rattle.reg_book.specs.Book.{directory_of}
use Rattle.reg_book.proofs.Ranks.{all-stand-more}
use Rattle.reg_book.proofs.indexes.all_indexes.Goals as goal

pub loop-instruction-preserved : goal.loop-instruction-preserved
loop-instruction-preserved c =
    let within : c.loop-instruction.instruction-index < length c.args.instructions.now = search rules in
    all-stand-more (directory_of c.args.accounts.now) (numbers c.args.accounts.now) c.loop-instruction.indexes.items
    c.push.new.self.items c.indexes_of.result c.args.instructions.now
    c.loop-instruction.instruction-index c.instruction-item.result within c.instruction-item.is
    c.in_ok-push.ensures.items c.indexes_of.ensures c.loop-instruction.invariant
