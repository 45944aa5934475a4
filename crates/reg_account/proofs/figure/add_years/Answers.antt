use Rattle.std.proofs.Common.{rules, ◌≡◌, ℕ, suc, ◌+◌, ◌-◌, ◌≤◌, Some, sym, ap, ◌∙◌, subst, arith}
use Rattle.std.specs.Prelude.{Option, IfSome}
use Rattle.reg_base.specs.declared.limits.TheConstants.{MOST_EMISSIONS}
use Rattle.reg_base.specs.Rising.{count_up}
use Rattle.reg_account.specs.Years.{emissions_in}
use Rattle.reg_account.specs.Figure.{emitted_or_missing}
use Rattle.reg_account.proofs.Figures.{plus, plus_plus, one_more}
use Rattle.reg_account.proofs.figure.add_years.Goals as goal

pub loop-number-preserved : goal.loop-number-preserved
loop-number-preserved c =
    let a = c.args.account.now in
    let n = c.loop-number.number in
    let last = c.get-number-end.result + 1 in
    let sum = c.loop-number.sum in
    let t = c.in-Some.tonnes in
    let named : c.unwrap-counted.result ≡ n = search rules in
    let found : emissions_in a.emissions n ≡ Some t =
    ap (emissions_in a.emissions) (sym named) ∙ sym c.emissions.ensures.value ∙ c.in-Some.is in
    let left : last - n ≡ suc (last - (n + 1)) = omega (arith, c.loop-number-test.true) in
    let few : t ≤ MOST_EMISSIONS =
    subst (λ (o : Option ℕ). IfSome o (λ m. m ≤ MOST_EMISSIONS)) c.in-Some.is c.emissions.ensures.limit in
    record {
      so_far =
          sym (plus_plus sum t (emitted_or_missing a (count_up (n + 1) (last - (n + 1)))))
          ∙ ap (plus sum) (sym (one_more a n t (count_up (n + 1) (last - (n + 1))) found))
          ∙ ap (λ k. plus sum (emitted_or_missing a (count_up n k))) (sym left)
          ∙ c.loop-number.invariant.so_far;
      bound = omega (arith, c.loop-number.invariant.bound, c.loop-number.invariant.from_first, few);
      from_first = omega (arith, c.loop-number.invariant.from_first);
    }
