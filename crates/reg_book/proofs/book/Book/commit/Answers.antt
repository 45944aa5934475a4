use Rattle.std.proofs.Common.{◌≡◌, ◌∙◌, ◌+◌, sym, ap, subst, arith, length}
use Rattle.std.specs.List.{AllByRecursion}
use Rattle.reg_rules.specs.Effect.{IsBehind}
use Rattle.reg_book.specs.Book.{directory_of, overlay}
use Rattle.reg_book.specs.Settled.{IsOfBook}
use Rattle.reg_book.proofs.Overlays.{kept_after, next_fits}
use Rattle.reg_book.proofs.book.Book.commit.Goals as goal

pub invariant_of-self : goal.invariant_of-self
invariant_of-self c =
    let same : c.base.result ≡ c.args.settled.base = c.base.ensures.value in
    let from_one = c.self.invariant.book.next.from_one in
    let equal = c.if-base-next.false in
    let begins : c.args.settled.base + 1 ≡ c.self.inside.next = omega (arith, same, equal, from_one) in
    let follows : c.args.settled.base + 1 ≡ c.args.self.now.next = begins ∙ ap (λ b. b.next) c.self.view_is in
    let stand = subst (λ b. IsOfBook b c.args.settled) (sym c.self.view_is) (c.requires follows) in
    let count : c.len.result ≡ length c.args.settled.rows =
    omega (arith, c.len.ensures, ap (λ rows. length rows) c.into_parts-rows.ensures.rows) in
    let after : c.args.settled.base + length c.args.settled.rows + 1 ≡ c.self.inside.next + c.len.result =
    omega (arith, begins, count) in
    kept_after c.self.inside.accounts.items c.replace_accounts.new.accounts.items c.args.settled.accounts
    c.self.inside.directory c.self.inside.next (c.self.inside.next + c.len.result) c.self.invariant
    (c.replace_accounts.ensures.items
    ∙ ap (λ others. overlay c.self.inside.accounts.items others) c.into_parts-rows.ensures.accounts)
    c.replace_accounts.ensures.within_limits
    stand.listed
    (next_fits c.args.settled c.self.inside.next c.len.result c.self.invariant.book.next begins count
    c.into_parts-rows.ensures.kept.numbered)
    (omega arith)
    (subst (λ n. AllByRecursion (IsBehind n) c.args.settled.accounts) after stand.behind)

pub returns-clause-directory : goal.returns-clause-directory
returns-clause-directory c =
    sym (invariant_of-self c).listed ∙ c.self.invariant.listed ∙ ap (λ b. directory_of b.accounts) c.self.view_is
