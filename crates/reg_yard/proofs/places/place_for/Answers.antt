use Rattle.std.proofs.Common.{◌≡◌, ◌<◌, length, rules, arith, sym}
use Rattle.reg_book.specs.Book.{directory_of}
use Rattle.reg_yard.specs.Parcels.{parcel_of}
use Rattle.reg_yard.proofs.Heads.{goes-nowhere}
use Rattle.reg_yard.proofs.places.place_for.Goals as goal

pub returns-then-after-len : goal.returns-then-after-len
returns-then-after-len g c =
    let context = c.args.context.now in
    let size : c.len.result ≡ length context.batch.now.instructions = search rules in
    let above : length context.batch.now.instructions < c.args.parcel.now.after =
    omega (arith, size, c.after-after.ensures, c.if-after-len.true) in
    sym (goes-nowhere (directory_of context.book.now.accounts) context.batch.now.instructions context.plan
    (parcel_of c.args.parcel.now) context.planned above)
