use Rattle.reg_book.proofs.Directories.{pushed_at}
use Rattle.reg_book.proofs.draft.make_room.Goals as goal

pub returns-clause-entered : goal.returns-clause-entered
returns-clause-entered c =
    let v = c.args.account.now in
    pushed_at c.args.accounts.now.items v c.args.directory.now c.insert.new.self c.number.result c.kind.result
    c.holder.result c.in_ok-insert.field-0
    c.requires.listed c.number.ensures c.kind.ensures c.holder.ensures c.requires.is_new c.in_ok-insert.ensures.new
    c.in_ok-insert.ensures.ok
