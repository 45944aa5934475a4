use Rattle.std.proofs.Common.{◌≡◌, ◌+◌, ℕ, Bool, true, false, cond, eqb, refl, rules, arith}
use Rattle.std.proofs.lemmas.List.Recursion.{is_count_by}
use Rattle.reg_facts.specs.Counting.{one_if, times}
use Rattle.example_uses.proofs.counting.count.Goals as goal

one-more : (found : Bool) (n : ℕ) → one_if found + n ≡ cond found (1 + n) n
one-more true n = refl
one-more false n = omega arith

pub returns : goal.returns
returns c =
    let p = c.args.wanted in
    search (rules, is_count_by (times p) (λ x. eqb x p) refl (λ x xs. one-more (eqb x p) (times p xs)))
