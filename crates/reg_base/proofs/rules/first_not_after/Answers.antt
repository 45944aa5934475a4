use Rattle.std.proofs.Common.{◌≡◌, ℕ, ◌+◌, ◌-◌, ◌<◌, false, get_or, sym, ◌∙◌, ap, arith, inl, inr}
use Rattle.std.specs.Ordering.{nat_cmp, is_le}
use Rattle.std.proofs.lemmas.Bool.Decides.{nat_tests}
use Rattle.std.proofs.lemmas.Bool.{cases_lt}
use Rattle.std.proofs.lemmas.List.{get_or-map}
use Rattle.reg_base.specs.Periods.{first_years, last_years}
use Rattle.reg_base.proofs.rules.first_not_after.Goals as goal

above : (a b : ℕ) → is_le (nat_cmp a b) ≡ false → b < a
above a b not = grind (arith, nat_tests, not)

pub loop-next-preserved : goal.loop-next-preserved
loop-next-preserved c =
    let periods = c.args.periods.now in
    let next = c.loop-next.next in
    λ k lt. elim (cases_lt (k + 1) next) as
    (λ x. get_or (last_years periods) k 0 < get_or (first_years periods) (k + 1) 0) [
      | inl before ↦ c.loop-next.invariant k before
      | inr at ↦
          let same : next ≡ k + 1 = omega (arith, at, lt) in
          let one_less : next - 1 ≡ k = omega (arith, same) in
          let long = c.loop-next-test.true in
          let first = get_or-map (λ (p : ℕ × ℕ). p.0) periods (k + 1) c.index-periods-next.result 0
          (omega (arith, same, long)) in
          let last = get_or-map (λ (p : ℕ × ℕ). p.1) periods k c.index-periods-next-in-loop-next.result 0
          (omega (arith, same, long)) in
          let up = above (get_or periods next c.index-periods-next.result).0
          (get_or periods (next - 1) c.index-periods-next-in-loop-next.result).1
          (sym c.le.ensures ∙ c.if-le.false) in
          let here = ap (λ i. (get_or periods i c.index-periods-next.result).0) same in
          let there = ap (λ i. (get_or periods i c.index-periods-next-in-loop-next.result).1) one_less in
          omega (arith, first, last, up, here, there)
    ]
