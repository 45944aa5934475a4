use Rattle.std.proofs.Common.{sym, subst}
use Rattle.reg_base.specs.Rising.{IsRising}
use Rattle.reg_rules.specs.State.{State, numbers}
use Rattle.reg_advice.proofs.Spread.{rising-each}
use Rattle.reg_advice.proofs.lookups.find_account.Goals as goal

pub index_of-requires : goal.index_of-requires
index_of-requires c =
    subst (λ (s : State). IsRising (numbers s)) (sym c.deref.ensures.value)
    (rising-each c.args.lists.now c.list_for-region.result c.index-lists-region.result c.if-region-lists.false
    c.index-lists-region.is c.requires)
