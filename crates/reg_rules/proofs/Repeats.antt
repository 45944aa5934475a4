-- Whether an account occurs twice among those that must be known, share by share.
use Rattle.std.proofs.Common.{◌≡◌, ℕ, Bool, false, List, [], ◌∷◌, ◌++◌, map, ◌||◌, eqb, Option, refl}
use Rattle.std.proofs.Common.{sym, ap, ◌∙◌}
use Rattle.std.specs.Option.{option_to_list}
use Rattle.std.specs.List.{list_any}
use Rattle.std.proofs.lemmas.List.Folds.{list_any-append}
use Rattle.std.proofs.lemmas.Bool.{or_parts}
use Rattle.reg_base.specs.declared.shares.Share.{Share}
use Rattle.reg_rules.specs.Checks.{has_repeat}

any_mapped : {X Y : Type 0} (p : Y → Bool) (f : X → Y) (xs : List X)
    → list_any p (map f xs) ≡ list_any (λ x. p (f x)) xs
any_mapped p f [] = refl
any_mapped p f (x ∷ xs) = ap (λ b. p (f x) || b) (any_mapped p f xs)

-- a list without a repeat begins with one
pub repeats-none : (xs ys : List ℕ) → has_repeat (xs ++ ys) ≡ false → has_repeat xs ≡ false
repeats-none [] ys none = refl
repeats-none (x ∷ xs) ys none =
    let parts = or_parts (list_any (λ y. eqb y x) (xs ++ ys)) (has_repeat (xs ++ ys)) none in
    let here = or_parts (list_any (λ y. eqb y x) xs) (list_any (λ y. eqb y x) ys)
    (sym (list_any-append (λ y. eqb y x) xs ys) ∙ parts.0) in
    ap (λ b. b || has_repeat xs) here.0 ∙ repeats-none xs ys parts.1

-- an account comes again among the shares, or as the other one
pub again : (a : ℕ) (shared : List Share) (o : Option ℕ) (found : Bool)
    → found ≡ list_any (λ share. eqb share.to a) shared
    → (r : Bool) → r ≡ (found || list_any (λ y. eqb y a) (option_to_list o))
    → r ≡ list_any (λ y. eqb y a) (map (λ share. share.to) shared ++ option_to_list o)
again a shared o found is r answer =
    answer ∙ ap (λ b. b || list_any (λ y. eqb y a) (option_to_list o))
    (is ∙ sym (any_mapped (λ y. eqb y a) (λ share. share.to) shared))
    ∙ sym (list_any-append (λ y. eqb y a) (map (λ share. share.to) shared) (option_to_list o))
