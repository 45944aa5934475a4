use Rattle.std.proofs.Common.{◌≡◌, ◌==◌, ◌++◌, Bool, ◌||◌, List, [], ◌∷◌, map, refl, sym, ap, ◌∙◌}
use Rattle.std.specs.List.{list_any}
use Rattle.std.proofs.lemmas.List.Folds.{list_any-append}
use Rattle.reg_base.specs.declared.shares.Share.{Share}
use Rattle.reg_base.specs.declared.movement.Change.{Change}
use Rattle.reg_base.specs.Acts.{amounts_named}
use Rattle.reg_base.proofs.movement.are_some_empty.Goals as goal

any-amount : (shared : List Share) → list_any (λ n. n == 0) (map (λ (share : Share). share.amount) shared)
    ≡ list_any (λ share. share.amount == 0) shared
any-amount [] = refl
any-amount (x ∷ xs) = ap (λ b. (x.amount == 0) || b) (any-amount xs)

in-both : (shared : List Share) (made : Change) (b : Bool) → b ≡ list_any (λ share. share.amount == 0) shared
    → list_any (λ n. n == 0) (map (λ share. share.amount) shared ++ amounts_named made)
    ≡ (b || list_any (λ n. n == 0) (amounts_named made))
in-both shared made b is =
    list_any-append (λ n. n == 0) (map (λ (share : Share). share.amount) shared) (amounts_named made)
    ∙ ap (λ b. b || list_any (λ n. n == 0) (amounts_named made)) (any-amount shared ∙ sym is)

pub returns-then-has_empty_share : goal.returns-then-has_empty_share
returns-then-has_empty_share c =
    c.if-has_empty_share.true
    ∙ sym (in-both c.args.shares.now c.args.change.now c.has_empty_share.result c.has_empty_share.ensures
    ∙ ap (λ b. b || list_any (λ n. n == 0) (amounts_named c.args.change.now)) c.if-has_empty_share.true)

pub returns-else-has_empty_share : goal.returns-else-has_empty_share
returns-else-has_empty_share c =
    c.names_zero.ensures
    ∙ sym (in-both c.args.shares.now c.args.change.now c.has_empty_share.result c.has_empty_share.ensures
    ∙ ap (λ b. b || list_any (λ n. n == 0) (amounts_named c.args.change.now)) c.if-has_empty_share.false)
