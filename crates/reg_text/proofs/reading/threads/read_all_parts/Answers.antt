use Rattle.std.proofs.Common.{Some, rules, ◌≡◌, length, arith}
use Rattle.reg_text.specs.declared.reading.tag.Tag.TheVariants as tag
use Rattle.reg_cuts.specs.Parts.{text_of_parts}
use Rattle.std.proofs.Common.{◌++◌}
use Rattle.reg_text.proofs.Names.{draft_of}
use Rattle.reg_text.proofs.PartFacts.{finished, reads-each}
use Rattle.reg_text.proofs.reading.threads.read_all_parts.Goals as goal

pub join_all-requires-clause-each : goal.join_all-requires-clause-each
join_all-requires-clause-each g c =
    let read = c.in-Ok.read in
    let len : length read.items ≡ length c.args.parts.now =
    omega (arith, read.ok.0, c.in-Ok.ensures.len) in
    reads-each (draft_of c.in_ok-start.start) c.args.parts.now read.items len c.in-Ok.ensures.each

pub returns-then-eq : goal.returns-then-eq
returns-then-eq g c =
    let over : c.in_ok-draft.draft.body.last ≡ Some tag.End = search rules in
    let f = finished (draft_of c.in_ok-start.start) (draft_of c.in_ok-draft.draft)
    (c.args.head.now ++ text_of_parts c.args.parts.now) c.in_ok-draft.ensures over in
    (f.0, over, f.1)
