use Rattle.std.proofs.Common.{◌≡◌, ℕ, ◌+◌, Bool, true, false, cond, List, [], ◌∷◌, Option, Some, refl, sym, ap, ◌∙◌}
use Rattle.std.specs.Option.{option_map}
use Rattle.std.specs.List.{position_from}
use Rattle.reg_base.specs.Periods.{is_within}
use Rattle.reg_base.specs.Rules.{RulesValue}
use Rattle.reg_base.proofs.rules.Rules.period_of.Goals as goal

-- counted from one more, a number is one more
one-more : {X : Type 0} (test : X → Bool) (first : ℕ) (xs : List X)
    → position_from test (first + 1) xs ≡ option_map (λ n. n + 1) (position_from test first xs)
one-more test first [] = refl
one-more test first (x ∷ xs) = go (test x) (one-more test (first + 1) xs) where
  go : (b : Bool) → position_from test (first + 1 + 1) xs ≡ option_map (λ n. n + 1) (position_from test (first + 1) xs)
      → cond b (Some (first + 1)) (position_from test (first + 1 + 1) xs)
      ≡ option_map (λ n. n + 1) (cond b (Some first) (position_from test (first + 1) xs))
  go true more = refl
  go false more = more

-- the number of the period that was found among these
numbered : (test : ℕ × ℕ → Bool) (found : Option ℕ) (seen periods : List (ℕ × ℕ)) → found ≡ position_from test 0 seen
    → seen ≡ periods
    → option_map (λ n. n + 1) found ≡ position_from test 1 periods
numbered test found seen periods is same =
    ap (option_map (λ n. n + 1)) (is ∙ ap (λ (xs : List (ℕ × ℕ)). position_from test 0 xs) same)
    ∙ sym (one-more test 0 periods)

pub returns-in-Some-clause-value : goal.returns-in-Some-clause-value
returns-in-Some-clause-value c =
    ap (option_map (λ n. n + 1)) (sym c.in-Some.is)
    ∙ numbered (λ p. is_within p c.args.year) c.index_with.result _ c.args.self.now.periods c.index_with.ensures.value
    (c.deref.ensures.value ∙ ap (λ (r : RulesValue). r.periods) c.self.view_is)

pub returns-in-None-clause-value : goal.returns-in-None-clause-value
returns-in-None-clause-value c =
    ap (option_map (λ n. n + 1)) (sym c.in-None.is)
    ∙ numbered (λ p. is_within p c.args.year) c.index_with.result _ c.args.self.now.periods c.index_with.ensures.value
    (c.deref.ensures.value ∙ ap (λ (r : RulesValue). r.periods) c.self.view_is)
