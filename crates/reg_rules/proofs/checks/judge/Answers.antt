use Rattle.std.proofs.Common.{◌≡◌, ◌∙◌, ap, sym, subst}
use Rattle.std.specs.Prelude.{IfOk}
use Rattle.reg_rules.specs.State.{State, seen}
use Rattle.reg_rules.specs.Checks.{refusal}
use Rattle.reg_rules.specs.Cases.{found_of}
use Rattle.reg_rules.proofs.checks.judge.Goals as goal

pub returns-in-Some-clause-fails : goal.returns-in-Some-clause-fails
returns-in-Some-clause-fails c =
    let a = c.args in
    let split = rw c.in-Some.is at c.next_at.ensures in
    c.judge_among.ensures.fails
    ∙ ap (λ (s : State). refusal a.setting.now s a.instruction.now) (sym split.0)

pub returns-in-Some-clause-found : goal.returns-in-Some-clause-found
returns-in-Some-clause-found c =
    let a = c.args in
    let split = rw c.in-Some.is at c.next_at.ensures in
    subst (λ (s : State). IfOk c.judge_among.result
    (λ found. found ≡ found_of a.setting.now a.instruction.now (seen s a.instruction.now.act)))
    (sym split.0) c.judge_among.ensures.found
