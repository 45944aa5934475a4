use Rattle.std.proofs.Common.{◌∙◌}
use Rattle.reg_claim.proofs.Keeps.{begins}
use Rattle.reg_claim.proofs.claim_table.ClaimTable.new.Goals as goal

pub of_words-requires : goal.of_words-requires
of_words-requires c = begins c.args.count _ c.ranges.count.fits (c.as_slice.ensures.value
    ∙ c.in_ok-words.ensures.items_if_clones_equal (λ y e. e))
