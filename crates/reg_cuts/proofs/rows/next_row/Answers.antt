use Rattle.csv.specs.Records.{fields_of}
use Rattle.reg_cuts.proofs.lemmas.RowsFacts.{row-or-none, why-failed}
use Rattle.reg_cuts.proofs.rows.next_row.Goals as goal

pub returns-in-Ok-clause-between : goal.returns-in-Ok-clause-between
returns-in-Ok-clause-between c =
    let k = c.requires in
    let read = c.in-Ok.ensures in
    (row-or-none c.args.reader.now c.read_byte_record.new.self c.in-Ok.found (fields_of c.read_byte_record.new.row) k
    (read.reads k.trims_nothing k.ready) (read.ready k.trims_nothing) read.flexible).0

pub returns-in-Ok-clause-rows : goal.returns-in-Ok-clause-rows
returns-in-Ok-clause-rows c =
    let k = c.requires in
    let read = c.in-Ok.ensures in
    (row-or-none c.args.reader.now c.read_byte_record.new.self c.in-Ok.found (fields_of c.read_byte_record.new.row) k
    (read.reads k.trims_nothing k.ready) (read.ready k.trims_nothing) read.flexible).1

pub out_of_memory-requires : goal.out_of_memory-requires
out_of_memory-requires c = why-failed c.args.reader.now c.read_byte_record.new.self _ c.requires.flexible
    (c.in-Err.ensures.why c.requires.ready)
