use Rattle.std.proofs.Common.{subst, Option}
use Rattle.std.specs.List.{AllByRecursion}
use Rattle.reg_text.proofs.Names.{IsSection, AccountHead, option_to_list, row}
use Rattle.reg_text.proofs.Names.{read_behind, scope_of}
use Rattle.reg_text.specs.declared.reading.tag.Tag.TheVariants as tag
use Rattle.reg_text.proofs.RowLaws.{account-fits}
use Rattle.reg_text.proofs.DraftSteps.{at-tag, lists-within, periods-known}
use Rattle.reg_text.proofs.reading.take.end_block.Goals as goal

pub make_account-account-requires : goal.make_account-account-requires
make_account-account-requires c =
    let d = read_behind c.args.heading.now c.args.body.now in
    let scope = scope_of d in
    let head = at-tag (IsSection scope) d tag.Account c.requires.within in
    let periods = periods-known d c.in-Some.head c.requires.within c.requires.stand c.in-Some.is in
    let fits = account-fits scope periods d.lists c.in-Some.head
    (subst (λ (o : Option AccountHead). AllByRecursion (row scope tag.Account).Fits (option_to_list o)) c.in-Some.is
    head.fits).0 (lists-within d c.requires.within) c.requires.retired in
    rw c.take.ensures.taken fits.0
