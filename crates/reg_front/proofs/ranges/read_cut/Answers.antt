use Rattle.std.proofs.Common.{Some, length, map, rules, ◌+◌, ◌≡◌, ◌∷◌, ◌++◌, []}
use Rattle.reg_front.specs.Ranges.{AreRanges}
use Rattle.reg_front.proofs.Slices.{between}
use Rattle.reg_front.proofs.ranges.read_cut.Goals as goal

pub returns-clause-order : goal.returns-clause-order
returns-clause-order g c =
    let read = c.in-Ok.read.items in
    let offsets = c.deref.result.now in
    let are : offsets ≡ c.args.from ∷ c.args.cuts.now ++ c.args.to ∷ [] = search rules in
    let len : length read + 1 ≡ length offsets = search rules in
    let each : AreRanges (g.F.ReadAt.contents c.args.file.now) offsets read = c.in-Ok.ensures.each in
    let all : map Some c.in_ok-pieces.pieces.items ≡ read = search rules in
    (between (g.F.ReadAt.contents c.args.file.now) c.args.cuts.now offsets read c.in_ok-pieces.pieces.items c.args.from
    c.args.to are len each all).0

pub returns-clause-bytes : goal.returns-clause-bytes
returns-clause-bytes g c =
    let read = c.in-Ok.read.items in
    let offsets = c.deref.result.now in
    let are : offsets ≡ c.args.from ∷ c.args.cuts.now ++ c.args.to ∷ [] = search rules in
    let len : length read + 1 ≡ length offsets = search rules in
    let each : AreRanges (g.F.ReadAt.contents c.args.file.now) offsets read = c.in-Ok.ensures.each in
    let all : map Some c.in_ok-pieces.pieces.items ≡ read = search rules in
    (between (g.F.ReadAt.contents c.args.file.now) c.args.cuts.now offsets read c.in_ok-pieces.pieces.items c.args.from
    c.args.to are len each all).1
