use Rattle.std.proofs.Common.{suc, ◌<◌, length, refl, sym, ◌∙◌, arith}
use Rattle.csv.specs.Records.{fields_of}
use Rattle.reg_text.proofs.ShareLaws.{first-fault, after-share}
use Rattle.reg_text.proofs.reading.instruction_row.+read_each_share.Goals as goal

pub returns-in-Err : goal.returns-in-Err
returns-in-Err t c =
    let room : suc c.args.column < length (fields_of c.args.row.now) =
    omega (arith, c.requires.ends, c.in-Some.ensures.cases.1) in
    first-fault c.args.column (fields_of c.args.row.now) c.in-Err.cause room (sym c.read_share.ensures ∙ c.in-Err.is)

pub returns-in-Ok : goal.returns-in-Ok
returns-in-Ok t c =
    let room : suc c.args.column < length (fields_of c.args.row.now) =
    omega (arith, c.requires.ends, c.in-Some.ensures.cases.1) in
    after-share c.args.column (fields_of c.args.row.now) c.in-Ok.share c.read_each_share.new.shares _
    c.read_each_share.result room (sym c.read_share.ensures ∙ c.in-Ok.is) refl c.read_each_share.ensures
