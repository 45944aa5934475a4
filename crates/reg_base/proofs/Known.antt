-- Whether all accounts that have to be in the directory are there, part by part.
use Rattle.std.proofs.Common.{◌≡◌, ℕ, Bool, true, ◌&&◌, List, ◌∷◌, ◌++◌, map, Option, ap, ◌∙◌}
use Rattle.std.specs.Option.{option_map_or, option_to_list}
use Rattle.std.specs.List.{list_all}
use Rattle.std.proofs.lemmas.List.Folds.{list_all-append, list_all-map}
use Rattle.reg_facts.proofs.lemmas.Lists.{list_all-option}
use Rattle.reg_base.specs.declared.shares.Share.{Share}

-- the first, those that receive, and the one beside them
pub in-all-three : (test : ℕ → Bool) (first : ℕ) (shared : List Share) (other : Option ℕ)
    → list_all test ((first ∷ map (λ (share : Share). share.to) shared) ++ option_to_list other)
    ≡ ((test first && list_all (λ share. test share.to) shared) && option_map_or test other true)
in-all-three test first shared other =
    list_all-append test (first ∷ map (λ (share : Share). share.to) shared) (option_to_list other)
    ∙ ap (λ b. (test first && b) && list_all test (option_to_list other))
    (list_all-map test (λ (share : Share). share.to) shared)
    ∙ ap (λ b. (test first && list_all (λ share. test share.to) shared) && b) (list_all-option test other)
