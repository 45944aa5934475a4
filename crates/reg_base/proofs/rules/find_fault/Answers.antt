use Rattle.std.proofs.Common.{sym, subst, ◌∙◌, arith}
use Rattle.reg_base.specs.Rising.{IsRising, FirstNotRising}
use Rattle.reg_base.specs.Rules.{rules_of}
use Rattle.reg_base.proofs.Faults.{admins-fault, long-fault, after-lags}
use Rattle.reg_base.proofs.rules.find_fault.Goals as goal

pub returns-in-Some-clause-first : goal.returns-in-Some-clause-first
returns-in-Some-clause-first c =
    sym (admins-fault (rules_of c.args.parts.now) (omega arith) c.in-Some.place
    (subst (λ xs. FirstNotRising xs c.in-Some.place) c.deref.ensures.value c.in-Some.ensures))

pub returns-then-has_long_lag-clause-first : goal.returns-then-has_long_lag-clause-first
returns-then-has_long_lag-clause-first c =
    sym (long-fault (rules_of c.args.parts.now) (omega arith)
    (subst IsRising c.deref.ensures.value (c.in_default.ensures {u = tt})) (c.if-has_long_lag.ensures {u = tt}))

pub returns-clause-first : goal.returns-clause-first
returns-clause-first c =
    c.find_period_fault.ensures.first
    ∙ sym (after-lags (rules_of c.args.parts.now) (omega arith)
    (subst IsRising c.deref.ensures.value (c.in_default.ensures {u = tt})) (c.if-has_long_lag.ensures {u = tt}).0)
