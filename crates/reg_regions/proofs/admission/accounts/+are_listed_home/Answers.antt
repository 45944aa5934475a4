use Rattle.std.proofs.Common.{◌≡◌, ◌∷◌, rules, sym, subst, All}
use Rattle.std.proofs.lemmas.List.Elements.{All-head, All-tail}
use Rattle.reg_rules.specs.State.{State, numbers}
use Rattle.reg_regions.specs.Homes.{AreKnown}
use Rattle.reg_regions.proofs.admission.accounts.+are_listed_home.Goals as goal

pub are_home-requires : goal.are_home-requires
are_home-requires t c =
    let d = c.args.setting.now.directory in
    let list = c.in-Some.list.now in
    let rest = c.in-Some.rest.now in
    let whole : c.args.lists.now ≡ list ∷ rest = search rules in
    subst (λ (s : State). AreKnown d (numbers s)) (sym c.deref.ensures.value)
    (All-head (λ l. AreKnown d (numbers l.items)) list rest
    (subst (All (λ l. AreKnown d (numbers l.items))) whole c.requires))

pub are_listed_home-requires : goal.are_listed_home-requires
are_listed_home-requires t c =
    let d = c.args.setting.now.directory in
    let list = c.in-Some.list.now in
    let rest = c.in-Some.rest.now in
    let whole : c.args.lists.now ≡ list ∷ rest = search rules in (
      search rules,
      All-tail (λ l. AreKnown d (numbers l.items)) list rest
          (subst (All (λ l. AreKnown d (numbers l.items))) whole c.requires),
    )
