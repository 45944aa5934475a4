use Rattle.std.proofs.Common.{◌∙◌, arith}
use Rattle.reg_rules.proofs.ByIndex.{none-given, none-left, give-next, given-next}
use Rattle.reg_rules.proofs.step.«+give_shares».Goals as goal

pub give_shares-requires : goal.give_shares-requires
give_shares-requires t c =
    let a = c.args in
    let cases = c.in-Some.ensures.cases in
    let d = c.decreases in (
      omega (arith, cases.1, d),
      give-next a.kind a.accounts.now a.indexes.now a.shares.now c.in-Some.index.now c.in-Some.others.now
          c.in-Some-split_first.share.now c.in-Some-split_first.rest.now c.index-accounts-index.result
          c.credit.new.self
          c.requires cases.0 c.in-Some-split_first.ensures.cases.0 c.credit.ensures,
    )

pub returns-in-None : goal.returns-in-None
returns-in-None t c =
    let a = c.args in
    none-left a.kind a.accounts.now a.indexes.now a.shares.now c.requires c.in-None.ensures.cases

pub returns-in-None-split_first : goal.returns-in-None-split_first
returns-in-None-split_first t c =
    none-given c.args.kind c.args.accounts.now c.args.shares.now c.in-None-split_first.ensures.cases

pub returns-in-Some-split_first : goal.returns-in-Some-split_first
returns-in-Some-split_first t c =
    let a = c.args in
    c.give_shares.ensures
    ∙ given-next a.kind a.accounts.now a.indexes.now a.shares.now c.in-Some.index.now c.in-Some.others.now
    c.in-Some-split_first.share.now c.in-Some-split_first.rest.now c.index-accounts-index.result c.credit.new.self
    c.requires c.in-Some.ensures.cases.0 c.in-Some-split_first.ensures.cases.0 c.credit.ensures
