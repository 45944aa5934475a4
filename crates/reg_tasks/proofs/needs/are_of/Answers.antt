use Rattle.std.proofs.Common.{◌≡◌, get_or, sym, ap, ◌∙◌, rules}
use Rattle.std.specs.Prelude.{not}
use Rattle.std.proofs.lemmas.Bool.{eq-eqb}
use Rattle.reg_tasks.proofs.Names.{get_or_any}
use Rattle.reg_tasks.proofs.Fitting.{number_at}
use Rattle.reg_tasks.proofs.needs.are_of.Goals as goal

pub returns-then-ne : goal.returns-then-ne
returns-then-ne g c = (
  λ t. absurd cc,
  λ same.
      let here = number_at c.args.parcels.now c.loop-index.index c.index-parcels-index.result
      (search rules) c.index-parcels-index.is in
      let there = ap (λ ns. get_or ns c.loop-index.index 0) same in
      let equal : c.account.result ≡ c.index-accounts-index.result = c.account.ensures ∙ sym here ∙ there
      ∙ get_or_any c.args.accounts.now c.loop-index.index 0 c.index-accounts-index.result (search rules)
      ∙ sym c.index-accounts-index.is in
      sym (sym c.if-ne.true ∙ c.ne.ensures ∙ ap not (eq-eqb c.account.result c.index-accounts-index.result equal)),
)
