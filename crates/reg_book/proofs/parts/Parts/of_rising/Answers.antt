use Rattle.std.proofs.Common.{sym, ap, ◌∙◌, subst}
use Rattle.reg_base.specs.Directory.{entry_numbers}
use Rattle.reg_base.specs.Rising.{IsRising}
use Rattle.reg_book.proofs.Directories.{entry-numbers}
use Rattle.reg_book.proofs.parts.Parts.of_rising.Goals as goal

pub of_rising-requires : goal.of_rising-requires
of_rising-requires c = subst IsRising
    (sym (ap entry_numbers c.in_ok-lists.ensures.entries ∙ entry-numbers c.args.listed)) c.requires.rising
