use Rattle.std.proofs.Common.{ℕ, true, Option, sym, ap, ◌∙◌}
use Rattle.std.specs.Option.{option_map_or}
use Rattle.reg_base.specs.Directory.{is_known}
use Rattle.reg_book.specs.Book.{directory_of}
use Rattle.reg_book.proofs.Footprints.{known-there, unknown-absent}
use Rattle.reg_book.proofs.Standing.{stands-at}
use Rattle.reg_book.proofs.indexes.is_there.Goals as goal

pub returns-in-Some-index_of : goal.returns-in-Some-index_of
returns-in-Some-index_of c =
    let s = c.args.accounts.now in
    sym (ap (λ (o : Option ℕ). option_map_or (is_known (directory_of s)) o true) c.in-Some.is
    ∙ known-there s c.in-Some-index_of.field-0 c.in-Some.number
    (stands-at s c.in-Some-index_of.field-0 c.in-Some.number c.in-Some-index_of.ensures))

pub returns-in-None-index_of : goal.returns-in-None-index_of
returns-in-None-index_of c =
    let s = c.args.accounts.now in
    sym (ap (λ (o : Option ℕ). option_map_or (is_known (directory_of s)) o true) c.in-Some.is
    ∙ unknown-absent s c.in-Some.number c.in-None-index_of.ensures)
