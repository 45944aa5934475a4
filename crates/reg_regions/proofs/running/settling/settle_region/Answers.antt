use Rattle.std.proofs.Common.{◌≡◌, ◌+◌, ◌-◌, ◌++◌, [], length, take, drop, rules, arith, sym, ap, subst, ◌∙◌}
use Rattle.std.specs.Option.{option_map_or}
use Rattle.reg_facts.proofs.lemmas.Lists.{written_whole}
use Rattle.reg_rules.specs.State.{State, numbers}
use Rattle.reg_rules.specs.Laws.{IsReady}
use Rattle.reg_book.specs.Indexes.{index_lists}
use Rattle.reg_advice.specs.declared.dealing.Deal.{Deal}
use Rattle.reg_regions.specs.Homes.{AreHome}
use Rattle.reg_regions.specs.Settling.{IsRun}
use Rattle.reg_regions.proofs.running.settling.settle_region.Goals as goal

pub settle_gated-requires-clause-ready : goal.settle_gated-requires-clause-ready
settle_gated-requires-clause-ready g c =
    let n = c.args.region.number in
    let within = c.args.region.within in
    subst (IsReady (c.args.batch.now.base + 1)) (sym (c.deref_mut.ensures.value ∙ c.args.region.opening))
    (c.requires.ground.ready (n - 1) (omega (arith, within.0, within.1)))

pub settle_gated-requires-clause-home : goal.settle_gated-requires-clause-home
settle_gated-requires-clause-home g c =
    let n = c.args.region.number in
    let setting = c.args.setting.now in
    let batch = c.args.batch.now in
    let deal = c.args.region.deal in
    let now = c.deref_mut.result.now in
    let here : AreHome setting batch (numbers now) deal.places.items (index_lists deal.indexes.items) =
    subst (λ (s : State). AreHome setting batch (numbers s) deal.places.items (index_lists deal.indexes.items))
    (sym (c.deref_mut.ensures.value ∙ c.args.region.opening))
    (c.requires.ground.home (n - 1) deal c.args.region.dealt) in
    subst (λ is. AreHome setting batch (numbers now) c.deref.result.now (index_lists is))
    (sym c.deref-2.ensures.value)
    (subst (λ ps. AreHome setting batch (numbers now) ps (index_lists deal.indexes.items))
    (sym c.deref.ensures.value) here)

pub returns-clause-settled : goal.returns-clause-settled
returns-clause-settled g c =
    let old = c.args.region.accounts.items in
    let new = c.settle_gated.new.accounts in
    let many : c.args.region.accounts.len ≡ length old = search rules in
    let size : length new ≡ length old = c.settle_gated.auto.accounts ∙ ap length c.deref_mut.ensures.value in
    let whole : take c.args.region.accounts.len (new ++ drop (length new) old) ≡ new =
    written_whole old new c.args.region.accounts.len many size in
    record {
      run = subst (λ (s : State). IsRun c.args.setting.now c.args.batch.now s
          (take c.args.region.accounts.len (new ++ drop (length new) old)) c.in_ok-replies.replies.items)
          (c.deref_mut.ensures.value ∙ c.args.region.opening)
          (subst (λ (s : State). IsRun c.args.setting.now c.args.batch.now c.deref_mut.result.now s
          c.in_ok-replies.replies.items) (sym whole) c.in_ok-replies.ensures.run);
      places = c.in_ok-replies.ensures.places ∙ c.deref.ensures.value
          ∙ sym (ap (λ r. option_map_or (λ (d : Deal). d.places.items) r []) c.args.region.dealt);
    }
